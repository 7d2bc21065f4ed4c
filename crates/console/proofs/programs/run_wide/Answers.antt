use Rattle.console.proofs.Processed.{nothing_read}
use Rattle.console.proofs.programs.run_wide.Goals as goal

pub returns-in_err-buffer : goal.returns-in_err-buffer
returns-in_err-buffer g c = nothing_read 4194304 1024 4096 _ _ _ _ c.from_residual.ensures.1
