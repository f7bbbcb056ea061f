-- What changes beside the stores: the Err number, the inputs and the steps that are left.
use Rattle.std.specs.Prelude.{ℕ, List}
use Rattle.run_matches.specs.Maps.{World}

abbrev pub beside : World → (err net_err : ℕ) → (inputs net_inputs : List (List ℕ)) → (left net_left : ℕ) → World
beside w e d i j n k = record {
  map = w.map;
  src = record w.src { err = e; inputs = i; left = n };
  net = record w.net { err = d; inputs = j; left = k };
}

-- both sides have so many steps left
abbrev pub with_steps : World → (left : ℕ) → World
with_steps w n = record { map = w.map; src = record w.src { left = n }; net = record w.net { left = n } }
