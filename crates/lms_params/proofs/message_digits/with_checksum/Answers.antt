use Rattle.std.proofs.Common.{ℕ, ◌≡◌, List, [], ◌∷◌, ◌++◌, take, drop}
use Rattle.std.proofs.lemmas.List.{take_at, drop_at}
use Rattle.lms_params.proofs.message_digits.with_checksum.Goals as goal

pub returns : goal.returns
returns c =
    let hash : List ℕ = c.args.q.now in
    let front : take 32 (hash ++ 0 ∷ 0 ∷ []) ≡ hash = take_at hash (0 ∷ 0 ∷ []) 32 c.told-q in
    let back : drop 32 (hash ++ 0 ∷ 0 ∷ []) ≡ 0 ∷ 0 ∷ [] = drop_at hash (0 ∷ 0 ∷ []) 32 c.told-q in
    rw (c.write_u16.ensures, c.copy_from_slice.ensures.after, front, back, c.checksum.ensures)
