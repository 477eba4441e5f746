use Rattle.p11_cpu.proofs.ConfinedTurns.{confined, confines_still}
use Rattle.p11_cpu.proofs.laws.a_user_turn_is_confined.Goals as goal

pub returns-clause-turn : goal.returns-clause-turn
returns-clause-turn c = confined (record {
  translation = c.user_translation_keeps_all_else.ensures;
  reach = c.user_translation_keeps_the_reach.ensures;
  beyond = c.user_addresses_have_16_bits.ensures;
  unmanaged = c.registers_stand_on_the_io_page.ensures;
  no_device = c.registers_stand_on_the_io_page-2.ensures;
  current = c.user_return_stays_in_user_mode.ensures.current;
  previous = c.user_return_stays_in_user_mode.ensures.previous;
  priority = c.user_return_stays_in_user_mode.ensures.priority;
})

pub returns-clause-still : goal.returns-clause-still
returns-clause-still c = confines_still (record {
  translation = c.user_translation_keeps_all_else.ensures;
  reach = c.user_translation_keeps_the_reach.ensures;
  beyond = c.user_addresses_have_16_bits.ensures;
  unmanaged = c.registers_stand_on_the_io_page.ensures;
  no_device = c.registers_stand_on_the_io_page-2.ensures;
  current = c.user_return_stays_in_user_mode.ensures.current;
  previous = c.user_return_stays_in_user_mode.ensures.previous;
  priority = c.user_return_stays_in_user_mode.ensures.priority;
})
