use Rattle.qc_widths.proofs.scope.Scope.find.Goals as goal

pub returns-in-Operands-clause-below : goal.returns-in-Operands-clause-below
returns-in-Operands-clause-below c = c.find_number.ensures.below c.args.self.now.ceiling
