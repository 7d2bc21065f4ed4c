use Rattle.models.specs.Items.{mark_element, mark_name}
use Rattle.models.proofs.TableFacts.{TabledTo}
use Rattle.models.proofs.form.Formed.fill_names.Given as goal

abbrev pub invariant-loop-bytes : goal.invariant-loop-bytes
invariant-loop-bytes l = let ms = l.self.model.now.marks.now in TabledTo 1024 (mark_name ms) (mark_element ms) l.bytes-index l.table
