use Rattle.std.proofs.Common.{arith}
use Rattle.qc_command.proofs.Readings.{number_of_setting}
use Rattle.qc_command.specs.Inner.CommandWords.{option_of}
use Rattle.qc_command.proofs.settings.setting.Goals as goal
use Rattle.qc_command.proofs.settings.setting.Goals.{else-rule-value-via-then-rule-value+else-value-rule, else-rule-value-via-else-rule-value}

pub returns-in_err-value : goal.returns-in_err-value
returns-in_err-value c = rw c.from_residual-in_err-value.ensures
    (λ value set. c.in_err-value.ensures value (number_of_setting (option_of c.args.rule.now) c.args.word.now c.in_ok-digits.digits.now value c.in_ok-digits.ensures set))

pub returns-else-rule-value : goal.returns-else-rule-value
returns-else-rule-value c = λ value set.
    let number = number_of_setting (option_of c.args.rule.now) c.args.word.now c.in_ok-digits.digits.now value c.in_ok-digits.ensures set in
    elim c.else-rule-value.branch [
      | else-rule-value-via-then-rule-value+else-value-rule w ↦ omega (arith, number.value, c.in_ok-value.ensures.value, set.most)
      | else-rule-value-via-else-rule-value w ↦ omega (arith, number.value, c.in_ok-value.ensures.value, set.least)
    ]
