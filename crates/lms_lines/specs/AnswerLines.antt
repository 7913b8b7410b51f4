-- What is written of a batch.
use Rattle.std.specs.Prelude.{ℕ, ◌+◌, List, [], ◌∷◌, ◌++◌, codes, decimal, map, Option, None, Some}
use Rattle.std.specs.Option.{option_map}
use Rattle.hex.specs.Hex.{encode_lower}
use Rattle.lms_batch.specs.Answers.{start_of}
use Rattle.lms_batch.specs.declared.collector.Batch.{Batch}
use Rattle.lms_batch.specs.declared.collector.Batch.TheVariants.{Complete, Partial}

-- the line of a signature: its index, a space, the signature in hexadecimal
abbrev pub answer_line : ℕ → List ℕ → List ℕ
answer_line index signature = decimal index ++ (codes " " ++ (encode_lower signature ++ codes "\n"))

-- the lines of the filled slots, at one index after another
abbrev pub answers : ℕ → List (Option (List ℕ)) → List ℕ
answers index [] = []
answers index (None ∷ slots) = answers (index + 1) slots
answers index (Some signature ∷ slots) = answer_line index signature ++ answers (index + 1) slots

-- for each job of a batch its signature, where there is one
abbrev pub slots_of : Batch → List (Option (List ℕ))
slots_of (Complete start signatures) = map (λ v. Some v.items) signatures.items
slots_of (Partial start slots) = map (option_map (λ v. v.items)) slots.items

-- the lines of a batch's signatures, from its first index on
abbrev pub answer_text : Batch → List ℕ
answer_text batch = answers (start_of batch) (slots_of batch)
