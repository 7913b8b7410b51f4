pub mod HeldTexts
