use Rattle.st_check_body.proofs.st_body_parts.EndLaws.{all_ends_seen}
use Rattle.st_check_body.proofs.st_body_parts.labels.check_end.Goals as goal

pub returns-in-Int : goal.returns-in-Int
returns-in-Int c = all_ends_seen _ _ _ _ _ c.in-Int.is (c.check_int.ensures c.args.s.now)

pub returns-in-Negative : goal.returns-in-Negative
returns-in-Negative c = all_ends_seen _ _ _ _ _ c.in-Negative.is (c.check_negative.ensures c.args.s.now)

pub returns-in-Typed : goal.returns-in-Typed
returns-in-Typed c = all_ends_seen _ _ _ _ _ c.in-Typed.is (c.check_literal.ensures c.args.s.now c.args.asked.now)

pub returns-in-Name : goal.returns-in-Name
returns-in-Name c = all_ends_seen _ _ _ _ _ c.in-Name.is (c.check_name.ensures c.args.asked.now)

pub returns-in-Enumerator : goal.returns-in-Enumerator
returns-in-Enumerator c = all_ends_seen _ _ _ _ _ c.in-Enumerator.is (c.check_value.ensures c.args.asked.now)

pub returns-in-Field : goal.returns-in-Field
returns-in-Field c = all_ends_seen _ _ _ _ _ c.in-Field.is (c.check_field.ensures c.args.asked.now)
