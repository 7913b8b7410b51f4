use Rattle.std.proofs.Common.{◌≡◌, ◌∷◌, ◌*◌, ◌+◌, ◌/◌, ◌%◌, ◌<◌, ℕ, [], arith}
use Rattle.std.specs.Int.{from_be_bytes, to_be_bytes, w32}
use Rattle.lms_lanes.proofs.bytes.word_from.Goals as goal

-- the bytes of the number that four bytes make
bytes_back : (a b c d : ℕ) → a < 256 → b < 256 → c < 256 → d < 256
    → to_be_bytes w32 (from_be_bytes w32 (a ∷ b ∷ c ∷ d ∷ [])) ≡ a ∷ b ∷ c ∷ d ∷ []
bytes_back a b c d ha hb hc hd =
    let n : ℕ = a * 16777216 + b * 65536 + c * 256 + d in
    let ea : n / 16777216 % 256 ≡ a = omega arith in
    let eb : n / 65536 % 256 ≡ b = omega arith in
    let ec : n / 256 % 256 ≡ c = omega arith in
    let ed : n % 256 ≡ d = omega arith in
    λ i. ea i ∷ eb i ∷ ec i ∷ ed i ∷ []

pub returns-clause-bytes : goal.returns-clause-bytes
returns-clause-bytes c =
    bytes_back c.args.a c.args.b c.args.c c.args.d c.ranges.a.fits c.ranges.b.fits c.ranges.c.fits c.ranges.d.fits
