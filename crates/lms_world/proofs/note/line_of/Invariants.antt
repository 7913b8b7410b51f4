use Rattle.std.proofs.Common.{◌≡◌, ◌++◌, codes, map, take}
use Rattle.lms_world.specs.Notes.{shown}
use Rattle.lms_world.proofs.note.line_of.Given as goal

abbrev pub invariant-loop-byte : goal.invariant-loop-byte
invariant-loop-byte l = l.line.items ≡ take l.byte-index (codes "note: ")

abbrev pub invariant-loop-byte-2 : goal.invariant-loop-byte-2
invariant-loop-byte-2 l = l.line.items ≡ codes "note: " ++ map shown (take l.byte-index l.text)
