use Rattle.std.proofs.Common.{◌≡◌, ◌+◌, ◌*◌, ◌++◌, length, map, take}
use Rattle.std.specs.List.{concat}
use Rattle.lms_spec.specs.Bytes.{u32str}
use Rattle.lms_image.specs.Image.{magic, level_text}
use Rattle.lms_image.proofs.image.encode_head.Given as goal

abbrev pub invariant-loop-lms : goal.invariant-loop-lms
invariant-loop-lms l = record {
  bytes : l.text ≡ magic ++ u32str 2 ++ u32str (length l.levels) ++ concat (map level_text (take l.lms-index l.levels));
  long : length l.text ≡ 12 + 8 * l.lms-index;
}
