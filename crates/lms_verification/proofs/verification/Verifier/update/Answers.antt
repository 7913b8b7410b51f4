use Rattle.lms_verification.proofs.verification.Verifier.update.Goals as goal

pub returns : goal.returns
returns c public_key signature message taken = record {
  lms = taken.lms;
  ots = taken.ots;
  key_parts = taken.key_parts;
  q = taken.q;
  ots_part = taken.ots_part;
  signature_parts = taken.signature_parts;
  leaf_is = taken.leaf_is;
  taken = c.update.ensures _ _ _ _ _ taken.taken;
}
