use Rattle.fcg_book.proofs.OpenedLaws.{ok_log, no_log, log_as, fault_as, loaded_over, refused_over, opens_told, opens_scripted, refuses_told, refuses_scripted, opened_records}
use Rattle.fcg_book.proofs.office.Office.open.Goals as goal

pub over-requires : goal.over-requires
over-requires g c =
    let back = rw c.as_slice.ensures at c.in-Ok-read_log.ensures.back in
    opened_records (g.K.Keeper.told c.args.keeper) (g.K.Keeper.told c.load.new.self) c.in-Ok.records c.in-Ok-read_log.register.entries c.in-Ok.ensures.records back

pub returns-in-Ok-read_log-clause-log : goal.returns-in-Ok-read_log-clause-log
returns-in-Ok-read_log-clause-log g c =
    let reads = rw c.as_slice.ensures at c.in-Ok-read_log.ensures.reads in
    rw c.over.ensures (loaded_over c.in-Ok.records (ok_log c.in-Ok-read_log.register.entries) (log_as c.in-Ok.records c.in-Ok-read_log.register.entries reads.0))

pub returns-in-Ok-read_log-clause-records : goal.returns-in-Ok-read_log-clause-records
returns-in-Ok-read_log-clause-records g c =
    let reads = rw c.as_slice.ensures at c.in-Ok-read_log.ensures.reads in
    rw c.over.ensures (opens_told (g.K.Keeper.told c.args.keeper) (g.K.Keeper.told c.load.new.self) (g.K.Keeper.script c.args.keeper) (g.K.Keeper.script c.load.new.self) c.in-Ok.records (ok_log c.in-Ok-read_log.register.entries) c.in-Ok.ensures.records (log_as c.in-Ok.records c.in-Ok-read_log.register.entries reads.0))

pub returns-in-Ok-read_log-clause-script : goal.returns-in-Ok-read_log-clause-script
returns-in-Ok-read_log-clause-script g c =
    let reads = rw c.as_slice.ensures at c.in-Ok-read_log.ensures.reads in
    rw c.over.ensures (opens_scripted (g.K.Keeper.told c.args.keeper) (g.K.Keeper.told c.load.new.self) (g.K.Keeper.script c.args.keeper) (g.K.Keeper.script c.load.new.self) c.in-Ok.records (ok_log c.in-Ok-read_log.register.entries) c.in-Ok.ensures.records c.in-Ok.ensures.script (log_as c.in-Ok.records c.in-Ok-read_log.register.entries reads.0))

pub returns-in-Ok-clause-log : goal.returns-in-Ok-clause-log
returns-in-Ok-clause-log g c =
    let fails = rw c.as_slice.ensures at c.in-Err-read_log.ensures.reads in
    loaded_over c.in-Ok.records (no_log c.in-Err-read_log.refusal) (fault_as c.in-Ok.records c.in-Err-read_log.refusal fails)

pub returns-in-Ok-clause-records : goal.returns-in-Ok-clause-records
returns-in-Ok-clause-records g c =
    let fails = rw c.as_slice.ensures at c.in-Err-read_log.ensures.reads in
    opens_told (g.K.Keeper.told c.args.keeper) (g.K.Keeper.told c.load.new.self) (g.K.Keeper.script c.args.keeper) (g.K.Keeper.script c.load.new.self) c.in-Ok.records (no_log c.in-Err-read_log.refusal) c.in-Ok.ensures.records (fault_as c.in-Ok.records c.in-Err-read_log.refusal fails)

pub returns-in-Ok-clause-script : goal.returns-in-Ok-clause-script
returns-in-Ok-clause-script g c =
    let fails = rw c.as_slice.ensures at c.in-Err-read_log.ensures.reads in
    opens_scripted (g.K.Keeper.told c.args.keeper) (g.K.Keeper.told c.load.new.self) (g.K.Keeper.script c.args.keeper) (g.K.Keeper.script c.load.new.self) c.in-Ok.records (no_log c.in-Err-read_log.refusal) c.in-Ok.ensures.records c.in-Ok.ensures.script (fault_as c.in-Ok.records c.in-Err-read_log.refusal fails)

pub returns-clause-log : goal.returns-clause-log
returns-clause-log g c = refused_over c.in-Err.refusal c.into.result c.into.ensures

pub returns-clause-records : goal.returns-clause-records
returns-clause-records g c = refuses_told (g.K.Keeper.told c.args.keeper) (g.K.Keeper.told c.load.new.self) (g.K.Keeper.script c.args.keeper) (g.K.Keeper.script c.load.new.self) c.in-Err.refusal c.into.result c.into.ensures c.in-Err.ensures.records

pub returns-clause-script : goal.returns-clause-script
returns-clause-script g c = refuses_scripted (g.K.Keeper.told c.args.keeper) (g.K.Keeper.told c.load.new.self) (g.K.Keeper.script c.args.keeper) (g.K.Keeper.script c.load.new.self) c.in-Err.refusal c.into.result c.into.ensures c.in-Err.ensures.script
