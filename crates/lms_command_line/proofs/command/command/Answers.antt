-- clap's clauses are over the command that was built, which is `lms_app`.
use Rattle.std.proofs.Common.{map}
use Rattle.clap.specs.Words.{found_of}
use Rattle.lms_command_line.proofs.Parsing.{fault_is_there, matches_of_program, memory_where_taken, no_fault, only_memory}
use Rattle.lms_command_line.proofs.Parsing.{options_are_there, reads_command, some_entered, some_kind}
use Rattle.lms_command_line.proofs.command.command.Goals as goal

pub returns-in-Err-clause-taken : goal.returns-in-Err-clause-taken
returns-in-Err-clause-taken g c =
    let words = map g.S.AsStr.text c.args.words.now in
    λ taken. only_memory _ _ c.fault_from.ensures
    (memory_where_taken _ words c.in-Err.error c.in_ok-application.ensures c.in-Err.ensures.passes taken)

pub returns-in-Err-clause-faults : goal.returns-in-Err-clause-faults
returns-in-Err-clause-faults g c =
    let words = map g.S.AsStr.text c.args.words.now in
    let is_app = c.in_ok-application.ensures in
    fault_is_there words c.in-Err.error c.fault_from.result c.fault_from.ensures
    (some_kind _ words c.in-Err.error is_app c.in-Err.ensures.kinds)
    (memory_where_taken _ words c.in-Err.error is_app c.in-Err.ensures.passes)

pub read-requires : goal.read-requires
read-requires g c =
    let words = map g.S.AsStr.text c.args.words.now in
    let is_app = c.in_ok-application.ensures in
    let none = no_fault _ words is_app c.in-Ok.ensures.kinds in
    let matches = matches_of_program _ words c.in-Ok.matches is_app c.in-Ok.ensures.matches in
    options_are_there words c.in-Ok.matches none matches c.in-Some.name.now
    (found_of c.in-Some.options.now) c.in-Some.ensures.name c.in-Some.ensures.rows

pub unreachable-requires : goal.unreachable-requires
unreachable-requires g c =
    let words = map g.S.AsStr.text c.args.words.now in
    let is_app = c.in_ok-application.ensures in
    let none = no_fault _ words is_app c.in-Ok.ensures.kinds in
    let matches = matches_of_program _ words c.in-Ok.matches is_app c.in-Ok.ensures.matches in
    some_entered words c.in-Ok.matches none matches c.in-None.ensures.name

pub returns-clause-reads : goal.returns-clause-reads
returns-clause-reads g c =
    let words = map g.S.AsStr.text c.args.words.now in
    let is_app = c.in_ok-application.ensures in
    let none = no_fault _ words is_app c.in-Ok.ensures.kinds in
    let matches = matches_of_program _ words c.in-Ok.matches is_app c.in-Ok.ensures.matches in
    reads_command words c.in-Ok.matches none matches c.in-Some.name.now
    (found_of c.in-Some.options.now) c.in-Some.ensures.name c.in-Some.ensures.rows
    c.in_ok-read-in-Some.field-0 c.in_ok-read-in-Some.ensures

pub returns-clause-faults : goal.returns-clause-faults
returns-clause-faults g c =
    no_fault _ (map g.S.AsStr.text c.args.words.now) c.in_ok-application.ensures c.in-Ok.ensures.kinds
