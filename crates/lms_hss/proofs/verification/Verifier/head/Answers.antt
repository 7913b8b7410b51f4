use Rattle.lms_hss.proofs.verification.Verifier.head.Goals as goal

pub returns : goal.returns
returns c public_key signature message taken = record {
  bottom_key = taken.bottom_key;
  bottom_signature = taken.bottom_signature;
  bottom = taken.bottom;
  head_is = c.head.ensures taken.bottom_key taken.bottom_signature message taken.taken;
}
