use Rattle.lms_hss.proofs.verification.Verifier.update.Goals as goal

pub returns : goal.returns
returns c public_key signature message taken = record {
  bottom_key = taken.bottom_key;
  bottom_signature = taken.bottom_signature;
  bottom = taken.bottom;
  same = taken.same;
  taken = c.update.ensures _ _ _ taken.taken;
}
