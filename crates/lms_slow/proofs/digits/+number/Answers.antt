use Rattle.std.proofs.Common.{ℕ, zero, suc, ◌≡◌, ◌+◌, ◌-◌, ◌*◌, ◌^◌, ◌<◌, arith, ap, pow-suc}
use Rattle.lms_slow.proofs.digits.+number.Goals as goal

-- one bit more
one_more_bit : (n value bit : ℕ) → 0 < n → value < 2 ^ (n - 1) → bit < 2 → 2 * value + bit < 2 ^ n
one_more_bit zero value bit some small two = absurd (omega arith)
one_more_bit (suc n) value bit some small two =
    let e : suc n - 1 ≡ n = omega arith in
    omega (arith, pow-suc 2 n, ap (λ k. 2 ^ k) e)

pub returns : goal.returns
returns t c = one_more_bit c.args.count c.number.result c.bit.result (omega arith) c.number.ensures c.bit.ensures
