use Rattle.std.proofs.Common.{◌+◌, List, ℕ, [], ◌∷◌, ◌++◌, length, take, drop, sym, subst, append-nil}
use Rattle.std.proofs.Math.Seq.{take-length}
use Rattle.lms_lines.specs.Gathered.{Gathered, gathered, Advances, Fails}
use Rattle.lms_lines.proofs.Steps.{IfErr-same, split-at, take-through-at, fails-full, fails-long, fails-line}
use Rattle.lms_lines.proofs.Steps.{advances-part, advances-line, few-jobs}
use Rattle.lms_lines.proofs.gathering.Gathering.take_line.Goals as goal

pub returns-then-is_full-clause-fault : goal.returns-then-is_full-clause-fault
returns-then-is_full-clause-fault c =
    fails-full (gathered c.args.self.now) c.args.bytes.now c.requires (c.is_full.ensures.0 c.if-is_full.true)

pub returns-in_err-end_line-in-Some-clause-fault : goal.returns-in_err-end_line-in-Some-clause-fault
returns-in_err-end_line-in-Some-clause-fault c =
    let g = gathered c.args.self.now in
    let bytes = c.args.bytes.now in
    let at = c.in-Some.at in
    let fault = c.in_err-end_line-in-Some.field-0.0 in
    let few = few-jobs c.is_full.result (length g.jobs) c.is_full.ensures c.if-is_full.false in
    let fails = fails-line g (take at bytes)
    (drop (at + 1) bytes) fault c.in_err-end_line-in-Some.ensures.fault c.in-Some.ensures.1 few in
    IfErr-same (Fails g bytes) c.from_residual.result fault c.from_residual.ensures.1
    (subst (λ (l : List ℕ). Fails g l fault) (sym (split-at bytes at 10 c.in-Some.ensures.0 c.in-Some.ensures.2)) fails)

pub returns-in_err-add-in-None-clause-fault : goal.returns-in_err-add-in-None-clause-fault
returns-in_err-add-in-None-clause-fault c =
    let g = gathered c.args.self.now in
    let bytes = c.args.bytes.now in
    let fault = c.in_err-add-in-None.field-0.0 in
    let few = few-jobs c.is_full.result (length g.jobs) c.is_full.ensures c.if-is_full.false in
    let fails = fails-long g bytes [] fault c.in_err-add-in-None.ensures.fault c.in-None.ensures few in
    IfErr-same (Fails g bytes) c.from_residual-in_err-add-in-None.result fault
    c.from_residual-in_err-add-in-None.ensures.1
    (subst (λ (l : List ℕ). Fails g l fault) (append-nil bytes) fails)

pub returns-in_ok-end_line-in-Some-clause-ok : goal.returns-in_ok-end_line-in-Some-clause-ok
returns-in_ok-end_line-in-Some-clause-ok c =
    let g = gathered c.args.self.now in
    let bytes = c.args.bytes.now in
    let at = c.in-Some.at in
    let few = few-jobs c.is_full.result (length g.jobs) c.is_full.ensures c.if-is_full.false in
    let ended = c.in_ok-end_line-in-Some.ensures.ok in
    let advances = advances-line g (take at bytes) ended.0 ended.1 c.in-Some.ensures.1 few in
    subst (λ (l : List ℕ). Advances g (gathered c.end_line.new.self) l)
    (sym (take-through-at bytes at 10 c.in-Some.ensures.0 c.in-Some.ensures.2))
    (subst (λ (now : Gathered). Advances g now (take at bytes ++ 10 ∷ [])) (sym ended.2) advances)

pub returns-in_ok-add-in-None-clause-ok : goal.returns-in_ok-add-in-None-clause-ok
returns-in_ok-add-in-None-clause-ok c =
    let g = gathered c.args.self.now in
    let bytes = c.args.bytes.now in
    let few = few-jobs c.is_full.result (length g.jobs) c.is_full.ensures c.if-is_full.false in
    let advances = advances-part g bytes c.in-None.ensures c.in_ok-add-in-None.ensures.short few in
    subst (λ (l : List ℕ). Advances g (gathered c.add.new.self) l) (sym (take-length bytes))
    (subst (λ (now : Gathered). Advances g now bytes) (sym c.in_ok-add-in-None.ensures.ok) advances)
