-- `narrow_sheet` meets its contract: refused, or the run from the accepted sheet, which is the run from the cells first given (Finishing).
-- Assumes nothing.
use Rattle.std.proofs.Common.{rules}
use Rattle.propagation.proofs.Finishing.{refused_narrows, accepted_ready, ran_narrows}
use Rattle.propagation.proofs.narrowing.narrow_sheet.Goals as goal

pub run_passes-requires : goal.run_passes-requires
run_passes-requires c = accepted_ready c.args.sheet c.accept-kept.ensures.value c.in-Ok.is (search rules) (search rules)

pub returns-in-Ok : goal.returns-in-Ok
returns-in-Ok c = ran_narrows c.args.sheet c.accept-kept.ensures.value c.in-Ok.is (search rules) (search rules) c.finish.ensures

pub returns-in-Err : goal.returns-in-Err
returns-in-Err c = refused_narrows c.args.sheet c.accept-kept.ensures.value (search rules) c.in-Err.is
