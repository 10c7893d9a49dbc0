-- The kinds of steps by their numbers. An outward event has the kind of its step.
use Rattle.std.specs.Prelude.{ℕ}

abbrev pub create_kind : ℕ
create_kind = 1

abbrev pub join_kind : ℕ
join_kind = 2

abbrev pub pass_kind : ℕ
pass_kind = 3

abbrev pub order_kind : ℕ
order_kind = 4

abbrev pub deliver_kind : ℕ
deliver_kind = 5

abbrev pub attempt_kind : ℕ
attempt_kind = 6

abbrev pub register_kind : ℕ
register_kind = 7

abbrev pub send_kind : ℕ
send_kind = 8

abbrev pub hand_kind : ℕ
hand_kind = 9

abbrev pub tell_kind : ℕ
tell_kind = 10

abbrev pub safe_kind : ℕ
safe_kind = 11

abbrev pub collect_kind : ℕ
collect_kind = 12
