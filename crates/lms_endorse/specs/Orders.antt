-- What an order holds.
use Rattle.std.specs.Prelude.{ℕ, ◌≡◌, List}
use Rattle.lms_join.specs.Keys.{IsHssPublicKey}
use Rattle.lms_endorse.specs.declared.order.Order.{Order}

-- the parts are those of the signer's public key, and its LMS public key is what is signed
pub record IsOrder (order : Order) : Type 0 where
  pub parts : IsHssPublicKey order.key.levels order.key.lms_key.now order.signer.now
  pub message : order.job.message.items ≡ order.key.lms_key.now

-- under this randomizer, of these bytes and this number of levels
pub record IsOrderOf (order : Order) (c signer : List ℕ) (joined : ℕ) : Type 0 where
  pub order_is : IsOrder order
  pub c_is : order.job.c ≡ c
  pub signer_is : order.signer.now ≡ signer
  pub joined_is : order.joined ≡ joined
