-- The text of a witness: a line that says of a key below which index all are used.
use Rattle.std.specs.Prelude.{ℕ, List, ◌++◌, codes, decimal}
use Rattle.hex.specs.Hex.{encode_lower}

-- how it begins: the identifier of the key
abbrev pub witness_head : List ℕ → List ℕ
witness_head id =
    codes "HSS key " ++ (encode_lower id ++ codes " has used all indices below ")

-- the whole line: that head, and the first index that may not be used
abbrev pub witness_text : List ℕ → ℕ → List ℕ
witness_text id counter = witness_head id ++ (decimal counter ++ codes "\n")
