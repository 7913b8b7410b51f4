use Rattle.std.proofs.Common.{◌≡◌, ◌++◌, ◌∙◌, List, ℕ, ap, length, refl, sym, subst, inr, ◌+◌, arith}
use Rattle.std.proofs.Common.{append-nil, append_assoc, length-append}
use Rattle.lms_blocks.proofs.Consumed.{consumes-both}
use Rattle.lms_lines.specs.Gathered.{HasNoEnd}
use Rattle.lms_lines.specs.TextLines.{lines_of}
use Rattle.lms_lines.proofs.Cutting.{last_piece, no-line-ends, nothing-read}
use Rattle.lms_lines.proofs.pieces.Pieces.next.Goals as goal

pub returns-then-len-gt-LONGEST_LINE-clause-fault :
    goal.returns-then-len-gt-LONGEST_LINE-clause-fault
returns-then-len-gt-LONGEST_LINE-clause-fault g c =
    let was = c.loop-turn.invariant in
    let lines = c.end_of_lines-end in
    let one = no-line-ends c.deref.result.now lines.result.1 lines.result.0 c.args.most
    (omega (arith, c.if-lines-gt0.false)) c.requires.some lines.ensures.none lines.ensures.all in
    let all : c.deref.result.now ≡ c.args.self.now ++ was.0 = c.deref.ensures.value ∙ c.self.view_is ∙ was.2 in
    inr (inr (
      refl,
      record {
        read = was.0;
        consumed = was.1;
        one_line = subst HasNoEnd all one;
        long = omega (arith, ap length all, c.deref.ensures.len, c.len.ensures, c.if-len-gt-LONGEST_LINE.true);
      },
    ))

pub rest-requires : goal.rest-requires
rest-requires g c =
    let lines = c.end_of_lines-end in
    let read = c.in_ok-read_more.ensures.read in
    let one = no-line-ends c.deref.result.now lines.result.1 lines.result.0 c.args.most
    (omega (arith, c.if-lines-gt0.false)) c.requires.some lines.ensures.none lines.ensures.all in
    let held : c.deref.result.now ≡ c.loop-turn.self = c.deref.ensures.value ∙ c.self.view_is in
    let same : c.read_more.new.self ≡ c.loop-turn.self =
    read.2 ∙ nothing-read c.loop-turn.self read.0 (read.3 ∙ c.if-branch-eq0.true) in
    subst HasNoEnd (held ∙ sym same) one

pub returns-then-branch-eq0-clause-piece : goal.returns-then-branch-eq0-clause-piece
returns-then-branch-eq0-clause-piece g c =
    let was = c.loop-turn.invariant in
    let read = c.in_ok-read_more.ensures.read in
    let rest = c.rest.ensures in
    let held : c.read_more.new.self ≡ c.args.self.now ++ (was.0 ++ read.0) =
    read.2 ∙ ap (λ (l : List ℕ). l ++ read.0) was.2 ∙ append_assoc c.args.self.now was.0 read.0 in
    record {
      read = was.0 ++ read.0;
      consumed = consumes-both _ _ _ was.0 read.0 was.1 read.1;
      parts = sym held ∙ sym rest.text ∙ sym (append-nil c.rest.result.text.items)
          ∙ ap (λ (l : List ℕ). c.rest.result.text.items ++ l) (sym rest.none);
      lines = rest.lines ∙ ap (λ (l : List ℕ). length (lines_of l)) (sym rest.text);
      few = omega (arith, rest.few, c.requires.some);
      ends = last_piece c.rest.result.is_last c.rest.result.text.items c.read_more.new.self c.rest.new.self _ rest.last
          (rest-requires g c.before) rest.text rest.none (c.in_ok-read_more.ensures.end c.if-branch-eq0.true);
    }

pub loop-turn-preserved : goal.loop-turn-preserved
loop-turn-preserved g c =
    let was = c.loop-turn.invariant in
    let read = c.in_ok-read_more.ensures.read in
    let held : c.deref.result.now ≡ c.loop-turn.self = c.deref.ensures.value ∙ c.self.view_is in
    let more : length c.read_more.new.self ≡ length c.loop-turn.self + length read.0 =
    ap length read.2 ∙ length-append c.loop-turn.self read.0 in (
      was.0 ++ read.0,
      consumes-both _ _ _ was.0 read.0 was.1 read.1,
      read.2 ∙ ap (λ (l : List ℕ). l ++ read.0) was.2 ∙ append_assoc c.args.self.now was.0 read.0,
      omega (arith, was.3, more, read.3, c.if-branch-eq0.false),
      omega (arith, was.3, ap length held, c.deref.ensures.len, c.len.ensures, c.if-len-gt-LONGEST_LINE.false),
    )
