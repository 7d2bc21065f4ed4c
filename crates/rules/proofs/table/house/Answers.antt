use mathlib.Core.Path.{refl}
use Rattle.schemas.proofs.HouseLaws.{house_is_the_table, house_lawful}
use Rattle.rules.proofs.table.house.Goals as goal

pub returns : goal.returns
returns c = record { calculus = refl; table = house_is_the_table; lawful = house_lawful }
