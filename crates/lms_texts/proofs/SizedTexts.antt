-- Hexadecimal texts of a known length.
use Rattle.std.proofs.Common.{◌≡◌, ℕ, ◌*◌, List, Result, Ok, Err, length, ap, ◌∙◌}
use Rattle.std.specs.Prelude.{◌≢◌, IfNone}
use Rattle.std.specs.Result.{result_ok}
use Rattle.hex.specs.Hex.{decode_of, decode_sized}
use Rattle.hex.specs.declared.error.FromHexError.{FromHexError}
use Rattle.hex.proofs.HexLemmas.{decode_of-ok, decode_sized-twice}

-- where decoding into n places gives none, the text decodes to no n bytes
pub none_of_length : (text : List ℕ) (n : ℕ) (r : Result (List ℕ) FromHexError) → r ≡ decode_sized text n
    → IfNone (result_ok r) ((bytes : List ℕ) → length bytes ≡ n → decode_of text ≢ Ok bytes)
none_of_length text n (Ok x) is = tt
none_of_length text n (Err e) is = λ bytes size ok.
    let twice = (decode_of-ok text bytes ok).2 ∙ ap (λ m. 2 * m) size in
    let same : Err e ≡ Ok bytes = is ∙ decode_sized-twice text n twice ∙ ok in
    cc same
