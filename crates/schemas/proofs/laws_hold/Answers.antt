use Rattle.schemas.proofs.HouseLaws.{house_is_the_table, house_lawful}
use Rattle.schemas.proofs.laws_hold.Goals as goal

pub returns : goal.returns
returns c = record { table = house_is_the_table; lawful = house_lawful }
