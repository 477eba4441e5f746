use Rattle.p11_alu.proofs.CarryRules.{neg_rule, adc_rule, sbc_rule}
use Rattle.p11_alu.proofs.results.carry_rules.Goals as goal

pub returns : goal.returns
returns c = record { neg = neg_rule; adc = adc_rule; sbc = sbc_rule }
