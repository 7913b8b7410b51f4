use Rattle.std.proofs.Common.{List, [], ◌∷◌, length, sym, ◌∙◌, ap, arith, length-append}
use Rattle.lms_shared_book.specs.Desks.{Sums, plus, total}
use Rattle.lms_shared_book.proofs.DeskSums.{joined}
use Rattle.lms_shared_book.proofs.desk.all_shares.Goals as goal

pub loop-desk-preserved : goal.loop-desk-preserved
loop-desk-preserved g c =
    let all = c.loop-desk.all.counted in
    let left = c.pop.new.self.items in
    let desk = c.in-Some.desk in
    let popped = c.in-Some.ensures.items in
    let merged = c.merge.ensures.counted ∙ ap (plus all) (c.desk.invariant.1 ∙ c.desk.view_is) in
    record {
      parts = omega (
        arith,
        c.merge.ensures.parts,
        c.desk.invariant.0,
        c.loop-desk.invariant.parts,
        ap length popped,
        length-append left (desk ∷ []),
      );
      counted = ap (λ (a : Sums). plus a (total left)) merged ∙ joined all desk left
          ∙ ap (λ (l : List Sums). plus all (total l)) (sym popped) ∙ c.loop-desk.invariant.counted;
      apart = c.merge.ensures.apart;
    }
