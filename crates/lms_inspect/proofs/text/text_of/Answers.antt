use Rattle.std.proofs.Common.{[]}
use Rattle.lms_inspect.specs.Found.{IsFound}
use Rattle.lms_inspect.specs.declared.found.Found.TheVariants.{Signature, State}
use Rattle.lms_inspect.proofs.Lines.{in-trees}
use Rattle.lms_inspect.proofs.text.text_of.Goals as goal

pub write_state-written-requires : goal.write_state-written-requires
write_state-written-requires c =
    let is : IsFound (State c.in-State.image) c.requires.0 = rw c.in-State.is at c.requires.1 in is.1.within

pub write_signature-written-requires : goal.write_signature-written-requires
write_signature-written-requires c =
    let is : IsFound (Signature c.in-Signature.parts) c.requires.0 = rw c.in-Signature.is at c.requires.1 in
    (is.2.signed.leaf_in_tree, in-trees c.in-Signature.parts.below.items is.2.rest [] is.2.through)
