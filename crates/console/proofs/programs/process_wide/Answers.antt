use Rattle.console.proofs.Processed.{no_memory}
use Rattle.console.proofs.programs.process_wide.Goals as goal

pub returns-in_err-lines : goal.returns-in_err-lines
returns-in_err-lines g c = no_memory c.args.limit 1024 4096 4096 c.args.places c.args.file.now _ _ _ c.from_residual-in_err-lines.ensures.1

pub returns-in_err-rows : goal.returns-in_err-rows
returns-in_err-rows g c = no_memory c.args.limit 1024 4096 4096 c.args.places c.args.file.now _ _ _ c.from_residual-in_err-rows.ensures.1

pub returns-in_err-replies : goal.returns-in_err-replies
returns-in_err-replies g c = no_memory c.args.limit 1024 4096 4096 c.args.places c.args.file.now _ _ _ c.from_residual-in_err-replies.ensures.1
