use Rattle.std.proofs.Common.{◌≡◌, ◌++◌, ◌∷◌, [], List, ℕ, Option, None, Some, IfSome, ap, ◌∙◌}
use Rattle.std.specs.Fmt.{WritesText, with_newline}
use Rattle.std.proofs.lemmas.Fmt.{contents_after_writes}
use Rattle.arrayvec.specs.ArrayString.{ArrayString}
use Rattle.lms_blocks.proofs.line.line_of.Goals as goal

-- an empty text that took a text and the end of its line holds both
line-after_writes : (o : Option (List ℕ)) (empty line : ArrayString) → empty.bytes ≡ []
    → WritesText (λ s bytes t. t.bytes ≡ s.bytes ++ bytes) empty (with_newline o) line
    → IfSome o (λ bytes. line.bytes ≡ bytes ++ 10 ∷ [])
line-after_writes None empty line is_empty p = tt
line-after_writes (Some bytes) empty line is_empty p =
    contents_after_writes _ (λ s. s.bytes) (λ s bs t e. e) empty (bytes ++ 10 ∷ []) line p
    ∙ ap (λ (front : List ℕ). front ++ (bytes ++ 10 ∷ [])) is_empty

pub returns : goal.returns
returns g c = line-after_writes (g.D.Display.output c.args.text) c.new-line.result c.writeln.new.self c.new-line.ensures
    c.in_ok-writeln.ensures.writes
