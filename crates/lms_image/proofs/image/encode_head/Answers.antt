use Rattle.std.proofs.Common.{◌++◌, length, refl, arith, ap, length-append}
use Rattle.lms_spec.specs.Bytes.{u32str}
use Rattle.lms_image.specs.declared.version.Version.TheVariants.{Second}
use Rattle.lms_image.specs.Image.{magic}
use Rattle.lms_image.proofs.LevelTexts.{head-more, head-whole}
use Rattle.lms_image.proofs.image.encode_head.Goals as goal

pub append_u32-requires-in-loop-lms : goal.append_u32-requires-in-loop-lms
append_u32-requires-in-loop-lms c =
    omega (
      arith,
      c.loop-lms.invariant.long,
      ap length c.as_slice-levels.ensures.levels,
      c.as_slice-levels.ensures.admitted.eight_at_most,
    )

pub append_u32-requires-in-loop-lms-2 : goal.append_u32-requires-in-loop-lms-2
append_u32-requires-in-loop-lms-2 c =
    omega (
      arith,
      c.loop-lms.invariant.long,
      ap length c.append_u32-in-loop-lms.ensures,
      length-append c.loop-lms.text (u32str c.code.result),
      ap length c.as_slice-levels.ensures.levels,
      c.as_slice-levels.ensures.admitted.eight_at_most,
    )

pub loop-lms-preserved : goal.loop-lms-preserved
loop-lms-preserved c = record {
  bytes = head-more (magic ++ u32str 2 ++ u32str (length c.as_slice-levels.result.now)) c.loop-lms.text
      c.append_u32-in-loop-lms.new.self c.append_u32-in-loop-lms-2.new.self c.as_slice-levels.result.now
      c.loop-lms.lms-index
      c.code.result c.code-in-loop-lms.result _ c.loop-lms-test.true c.loop-lms.invariant.bytes
      c.append_u32-in-loop-lms.ensures c.append_u32-in-loop-lms-2.ensures c.code.ensures c.code-in-loop-lms.ensures;
  long = omega (
    arith,
    c.loop-lms.invariant.long,
    ap length c.append_u32-in-loop-lms.ensures,
    length-append c.loop-lms.text (u32str c.code.result),
    ap length c.append_u32-in-loop-lms-2.ensures,
    length-append c.append_u32-in-loop-lms.new.self (u32str c.code-in-loop-lms.result),
  );
}

pub returns-clause-text : goal.returns-clause-text
returns-clause-text c =
    head-whole c.loop-lms.text Second 2 c.loop-lms.lms-index c.as_slice-levels.result.now c.args.levels.now refl
    c.as_slice-levels.ensures.levels c.loop-lms-test.false c.loop-lms.invariant.bytes
