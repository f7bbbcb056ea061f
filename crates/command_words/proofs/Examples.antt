-- Worked examples: words that ask for something, and words that don't.
use Rattle.std.proofs.Common.{◌≡◌, inl, inr, true, false, [], ◌∷◌, Some, None, codes, refl, arith}
use Rattle.std.specs.Fmt.{digits}
use Rattle.command_words.specs.Asks.{Asks, is_project_file, is_settings_name, begins_with_minus}
use Rattle.command_words.specs.declared.asked.Asked.TheVariants.{Upgrade, Check, Make, Rules}

hello : Asks (codes "upgrade" ∷ codes "Hello.vbp" ∷ []) (Upgrade (codes "Hello.vbp") None)
hello = (_, refl, record { is_file = refl; are_settings = tt; words_are = inl ([], _, refl, inl (refl, refl), refl) })

capitals : Asks (codes "check" ∷ codes "P.VBP" ∷ []) (Check (codes "P.VBP") None)
capitals = (_, refl, record { is_file = refl; are_settings = tt; words_are = inl ([], _, refl, inl (refl, refl), refl) })

behind_minus : Asks (codes "upgrade" ∷ codes "--" ∷ codes "-P.vbp" ∷ []) (Upgrade (codes "-P.vbp") None)
behind_minus = (_, refl, record { is_file = refl; are_settings = tt; words_are = inl ([], _, refl, inr refl, refl) })

option_first : Asks (codes "upgrade" ∷ codes "--settings" ∷ codes "s.toml" ∷ codes "P.vbp" ∷ []) (Upgrade (codes "P.vbp") (Some (codes "s.toml")))
option_first = (_, refl, record { is_file = refl; are_settings = refl; words_are = inl (_, _, inl refl, inl (refl, refl), refl) })

option_last : Asks (codes "upgrade" ∷ codes "P.vbp" ∷ codes "--settings=s.toml" ∷ []) (Upgrade (codes "P.vbp") (Some (codes "s.toml")))
option_last = (_, refl, record { is_file = refl; are_settings = refl; words_are = inr (_, inr refl, refl, refl) })

six : Asks (codes "make" ∷ codes "6" ∷ []) (Make 6)
unfolding digits
six = (_, refl, (omega arith, omega arith, refl))

rules_alone : Asks (codes "rules" ∷ []) Rules
rules_alone = refl

in_a_folder : is_project_file (codes "src/P.vbp") ≡ false
in_a_folder = refl

other_ending : is_project_file (codes "Hello.txt") ≡ false
other_ending = refl

past_ascii : is_project_file (80 ∷ 195 ∷ 169 ∷ codes ".vbp") ≡ false
past_ascii = refl

minus_first : begins_with_minus (codes "-P.vbp") ≡ true
minus_first = refl

settings_minus_first : is_settings_name (codes "-s") ≡ false
settings_minus_first = refl
