-- A lamp with a fault, and its model.
use Rattle.std.specs.Prelude.{ℕ, ℤ, pos, Bool, true, false, not, ◌||◌, if◌then◌else◌}
use Rattle.std.specs.Ordering.{int_eq}
use Rattle.pt_val.specs.declared.val.Val.{Val}
use Rattle.pt_typed.specs.Reading.{number_of}
use Rattle.pt_against.specs.Compared.{Pairing}

-- the state after a command, which is answered as well
abbrev pub told : Bool → Bool × Bool
told on = (on, on)

-- off and on are done as they are said, and any other command changes the lamp
abbrev pub is_plain : ℤ → Bool
is_plain command = int_eq command (pos 0) || int_eq command (pos 1)

abbrev pub after : Bool → ℤ → Bool
after on command = if is_plain command then int_eq command (pos 1) else not on

abbrev pub lamp_pairing : Pairing Bool Bool Bool
lamp_pairing = record {
  thing = false;
  model = false;
  allows = λ on command. not on || not (int_eq (number_of command) (pos 1));
  by_thing = λ on command. told (not (int_eq (number_of command) (pos 0)));
  by_model = λ on command. told (after on (number_of command));
  point = λ command. if is_plain (number_of command) then 1 else 2;
}
