-- How many parentheses are open inside of an argument list.
use Rattle.std.specs.Prelude.{ℕ}
use Rattle.form_parts.specs.declared.chains.Link.{Link}
use Rattle.form_parts.specs.declared.chains.Link.TheVariants.{Inside}

abbrev pub opened : Link → ℕ
opened (Inside d) = d
opened _ = 0
