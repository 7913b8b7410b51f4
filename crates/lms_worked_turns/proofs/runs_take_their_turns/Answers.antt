use Rattle.std.proofs.Common.{ℕ, ◌≡◌, ◌+◌, ◌≤◌, ◌∷◌, [], Ok, inl, inr, refl, arith}
use Rattle.lms_spec.specs.Hss.{capacity_of}
use Rattle.lms_hss.specs.Keys.{hss_key_of}
use Rattle.lms_hss.specs.declared.key.HssKey.{HssKey as KeyOfCode}
use Rattle.lms_image.specs.Image.{HasImage}
use Rattle.lms_book.specs.Stops.{IsAmong, Texts, only, or_else}
use Rattle.lms_commands.specs.Histories.{IsSignature, Signature}
use Rattle.lms_world.specs.Events.{Written}
use Rattle.lms_world.specs.Names.{Bytes}
use Rattle.lms_worked_turns.specs.Worked.{IsRight, given_by, holding, image_after, next_by, storing_run, trying_run}
use Rattle.lms_worked_turns.specs.Worked.{unwatched_calls}
use Rattle.lms_worked_turns.proofs.Carried.{reads}
use Rattle.lms_worked_turns.proofs.runs_take_their_turns.Goals as goal

module _ (key : KeyOfCode) (has : HasImage key 0 0 0) (enough : 3 ≤ capacity_of (hss_key_of key)) where
  stores : (n : ℕ) (held : Texts) (name : Bytes) (one : Signature) → n + 1 ≤ 3 → IsAmong held (image_after key n)
      → IsSignature one → one.key ≡ key → one.index ≡ n → IsRight (storing_run key n held name one)
  stores n held name one below among is of_key at = record {
    first = unwatched_calls (holding held) (next_by key n held);
    later = Written name one.bytes (Ok tt) ∷ [];
    calls = refl;
    does = record {
      taken = holding held;
      given = given_by key n held;
      left = _;
      read = reads key has n held (omega (arith, below, enough)) among;
      text_is = refl;
      some = omega arith;
      within = omega (arith, below, enough);
      stores = inl refl;
      one_use = refl;
      seen = refl;
      admitted = tt;
      notes_so = inl refl;
    };
    nothing_leaves = refl;
    signs = ((is, of_key, omega (arith, at), omega (arith, at), tt), inr ((given_by key n held, _, refl), refl));
    nothing_stored = refl;
    nothing_noted = refl;
  }

  tries : IsRight (trying_run key)
  tries = record {
    first = (trying_run key).whole;
    later = [];
    calls = refl;
    does = record {
      taken = holding (only (image_after key 1));
      given = given_by key 1 (only (image_after key 1));
      left = _;
      read = reads key has 1 (only (image_after key 1)) (omega (arith, enough)) (0, omega arith, refl);
      text_is = refl;
      some = omega arith;
      within = omega (arith, enough);
      stores = inr (inr (or_else (image_after key 2) (only (image_after key 1)), inr refl, refl));
      one_use = refl;
      seen = refl;
      admitted = tt;
      notes_so = inl refl;
    };
    nothing_leaves = refl;
    signs = (tt, inl refl);
    nothing_stored = refl;
    nothing_noted = refl;
  }

pub returns : goal.returns
returns c = λ key name first third has enough is of_key at later_is later_of_key later_at. (
  stores key has enough 0 (only (image_after key 0)) name first (omega arith) (0, omega arith, refl) is of_key at,
  tries key has enough,
  stores key has enough 2 (or_else (image_after key 2) (only (image_after key 1))) name third (omega arith)
      (0, omega arith, refl) later_is later_of_key later_at,
)
