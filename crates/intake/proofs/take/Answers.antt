use Rattle.intake.proofs.take.Goals as goal

pub returns-in-Inclusion-clause-reached : goal.returns-in-Inclusion-clause-reached
returns-in-Inclusion-clause-reached g c = λ b lends r. c.file_inclusion.ensures.reached.reached b tt r

pub returns-in-Transitivity-clause-reached : goal.returns-in-Transitivity-clause-reached
returns-in-Transitivity-clause-reached g c = λ b lends r. c.file_transitivity.ensures.reached.reached b tt r

pub returns-in-Concept-clause-reached : goal.returns-in-Concept-clause-reached
returns-in-Concept-clause-reached g c = λ b lends r. c.file_concept.ensures.reached.reached b tt r

pub returns-in-Pair-clause-reached : goal.returns-in-Pair-clause-reached
returns-in-Pair-clause-reached g c = λ b lends r. c.pair.ensures.reached.reached b tt r

pub returns-in-Axiom-clause-reached : goal.returns-in-Axiom-clause-reached
returns-in-Axiom-clause-reached g c = λ b lends r. c.file_axiom.ensures.reached.reached b tt r

pub returns-in-Seal-clause-reached : goal.returns-in-Seal-clause-reached
returns-in-Seal-clause-reached g c = λ b lends r. c.seal.ensures.reached.reached b tt r

pub returns-in-Claim-clause-reached : goal.returns-in-Claim-clause-reached
returns-in-Claim-clause-reached g c = λ b lends r. c.file_claim.ensures.reached.reached b tt r

pub returns-in-CloseEmpty-clause-reached : goal.returns-in-CloseEmpty-clause-reached
returns-in-CloseEmpty-clause-reached g c = λ b lends r. c.close_empty.ensures.reached.reached b tt r

pub returns-in-CloseInhabited-clause-reached : goal.returns-in-CloseInhabited-clause-reached
returns-in-CloseInhabited-clause-reached g c = λ b lends r. c.close_inhabited.ensures.reached.reached b tt r

pub returns-in-Line-clause-reached : goal.returns-in-Line-clause-reached
returns-in-Line-clause-reached g c = λ b lends r. c.file_line.ensures.reached.reached b lends r
