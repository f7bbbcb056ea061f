-- What words ask for, by their command word.
use Rattle.std.proofs.Common.{◌≡◌, ℕ, true, List, [], ◌∷◌, length, get_or, drop, Option, codes, refl, sym, ap, subst, arith, ◌∙◌}
use Rattle.std.proofs.lemmas.List.{length-map}
use Rattle.std.specs.Prelude.{if◌then◌else◌}
use Rattle.std.specs.Borrow.{Bor}
use Rattle.std.specs.Str.{bytes_eq}
use Rattle.command_words.specs.Asks.{Asks, NameCount, NameFile, Word}
use Rattle.command_words.specs.Commands.{are_printable, seen, word_of}
use Rattle.command_words.specs.declared.asked.Asked.{Asked}
use Rattle.command_words.specs.declared.asked.Asked.TheVariants as asked
use Rattle.command_words.specs.declared.forms.Form.{Form}
use Rattle.command_words.specs.declared.forms.Form.TheVariants.{Upgrade, Check, Make, Rules}
use Rattle.command_words.proofs.Counts.{count_printable}
use Rattle.command_words.proofs.Requests.{named_printable}

abbrev form_in : Asked → Form
form_in (asked.Upgrade f s) = Upgrade
form_in (asked.Check f s) = Check
form_in (asked.Make n) = Make
form_in asked.Rules = Rules

abbrev form_by : Word → Form
form_by word =
    if bytes_eq word (codes "upgrade") then Upgrade
    else if bytes_eq word (codes "check") then Check else if bytes_eq word (codes "make") then Make else Rules

by_word : (form : Form) → form_by (word_of form) ≡ form
by_word Upgrade = refl
by_word Check = refl
by_word Make = refl
by_word Rules = refl

-- the words begin with the command word
abbrev pub BeginsWith : Word → List Word → Type 0
BeginsWith command words = (rest : List Word) × (words ≡ command ∷ rest)

pub command_word : (words : List Word) (a : Asked) → Asks words a → BeginsWith (word_of (form_in a)) words
command_word words (asked.Upgrade f s) (rest, is, named) = (rest, is)
command_word words (asked.Check f s) (rest, is, named) = (rest, is)
command_word words (asked.Make n) (rest, is, named) = (rest, is)
command_word words asked.Rules is = ([], is)

-- words that ask for anything begin with a command word
pub some_form : (words : List Word) (a : Asked) → Asks words a → ((form : Form) → (rest : List Word) → words ≡ word_of form ∷ rest → ⊥) → ⊥
some_form words a asks none = let (rest, is) = command_word words a asks in none (form_in a) rest is

same_form : (words : List Word) (form : Form) (a : Asked) → BeginsWith (word_of form) words → Asks words a → form_in a ≡ form
same_form words form a (rest, is) asks =
    let (others, also) = command_word words a asks in
    let words_same : word_of (form_in a) ≡ word_of form = ap (λ ws. get_or ws 0 []) (sym also ∙ is) in
    sym (by_word (form_in a)) ∙ ap form_by words_same ∙ by_word form

abbrev behind_first : (P : List Word → Type 0) → (words : List Word) → (command : Word) → (rest : List Word) → words ≡ command ∷ rest → P rest → P (drop 1 words)
behind_first P words command rest is p = subst (λ ws. P (drop 1 ws)) (sym is) p

no_upgrade : (words : List Word) (a : Asked) → form_in a ≡ Upgrade → Asks words a → ((f : Word) → (s : Option Word) → NameFile (drop 1 words) f s → ⊥) → ⊥
no_upgrade words (asked.Upgrade f s) same (rest, is, named) none = none f s (behind_first (λ ws. NameFile ws f s) words _ rest is named)
no_upgrade words (asked.Check f s) same asks none = cc same
no_upgrade words (asked.Make n) same asks none = cc same
no_upgrade words asked.Rules same asks none = cc same

no_check : (words : List Word) (a : Asked) → form_in a ≡ Check → Asks words a → ((f : Word) → (s : Option Word) → NameFile (drop 1 words) f s → ⊥) → ⊥
no_check words (asked.Upgrade f s) same asks none = cc same
no_check words (asked.Check f s) same (rest, is, named) none = none f s (behind_first (λ ws. NameFile ws f s) words _ rest is named)
no_check words (asked.Make n) same asks none = cc same
no_check words asked.Rules same asks none = cc same

no_make : (words : List Word) (a : Asked) → form_in a ≡ Make → Asks words a → ((n : ℕ) → NameCount (drop 1 words) n → ⊥) → ⊥
no_make words (asked.Upgrade f s) same asks none = cc same
no_make words (asked.Check f s) same asks none = cc same
no_make words (asked.Make n) same (rest, is, named) none = none n (behind_first (λ ws. NameCount ws n) words _ rest is named)
no_make words asked.Rules same asks none = cc same

no_rules : (words : List Word) (a : Asked) → form_in a ≡ Rules → Asks words a → length words ≡ 1
no_rules words (asked.Upgrade f s) same asks = absurd (cc same)
no_rules words (asked.Check f s) same asks = absurd (cc same)
no_rules words (asked.Make n) same asks = absurd (cc same)
no_rules words asked.Rules same is = ap length is

pub refutes_upgrade : (words : List Word) → BeginsWith (word_of Upgrade) words → ((f : Word) → (s : Option Word) → NameFile (drop 1 words) f s → ⊥) → (a : Asked) → Asks words a → ⊥
refutes_upgrade words begins none a asks = no_upgrade words a (same_form words Upgrade a begins asks) asks none

pub refutes_check : (words : List Word) → BeginsWith (word_of Check) words → ((f : Word) → (s : Option Word) → NameFile (drop 1 words) f s → ⊥) → (a : Asked) → Asks words a → ⊥
refutes_check words begins none a asks = no_check words a (same_form words Check a begins asks) asks none

pub refutes_make : (words : List Word) → BeginsWith (word_of Make) words → ((n : ℕ) → NameCount (drop 1 words) n → ⊥) → (a : Asked) → Asks words a → ⊥
refutes_make words begins none a asks = no_make words a (same_form words Make a begins asks) asks none

pub refutes_rules : (texts : List (Bor Word)) → BeginsWith (word_of Rules) (seen texts) → (length texts ≡ 1 → ⊥) → (a : Asked) → Asks (seen texts) a → ⊥
refutes_rules texts begins none a asks = none (sym (length-map texts (λ t. t.now)) ∙ no_rules (seen texts) a (same_form (seen texts) Rules a begins asks) asks)

-- ---- what is asked

pub asks_upgrade : (words : List Word) (f : Word) (s : Option Word) → BeginsWith (word_of Upgrade) words → NameFile (drop 1 words) f s → Asks words (asked.Upgrade f s)
asks_upgrade words f s (rest, is) named = (rest, is, subst (λ ws. NameFile (drop 1 ws) f s) is named)

pub asks_check : (words : List Word) (f : Word) (s : Option Word) → BeginsWith (word_of Check) words → NameFile (drop 1 words) f s → Asks words (asked.Check f s)
asks_check words f s (rest, is) named = (rest, is, subst (λ ws. NameFile (drop 1 ws) f s) is named)

pub asks_make : (words : List Word) (n : ℕ) → BeginsWith (word_of Make) words → NameCount (drop 1 words) n → Asks words (asked.Make n)
asks_make words n (rest, is) named = (rest, is, subst (λ ws. NameCount (drop 1 ws) n) is named)

no_more : (command : Word) (rest : List Word) → length (command ∷ rest) ≡ 1 → rest ≡ []
no_more command [] e = refl
no_more command (word ∷ rest) e = absurd (omega (arith, e))

pub asks_rules : (texts : List (Bor Word)) (a : Asked) → BeginsWith (word_of Rules) (seen texts) → a ≡ asked.Rules → length texts ≡ 1 → Asks (seen texts) a
asks_rules texts a (rest, is) same one =
    let none = no_more (word_of Rules) rest (sym (ap length is) ∙ length-map texts (λ t. t.now) ∙ one) in
    subst (Asks (seen texts)) (sym same) (is ∙ ap (λ ws. word_of Rules ∷ ws) none)

-- ---- words that ask for anything are printable

printable_with : (words : List Word) (form : Form) (rest : List Word) → words ≡ word_of form ∷ rest → are_printable rest ≡ true → are_printable words ≡ true
printable_with words Upgrade rest is p = subst (λ ws. are_printable ws ≡ true) (sym is) p
printable_with words Check rest is p = subst (λ ws. are_printable ws ≡ true) (sym is) p
printable_with words Make rest is p = subst (λ ws. are_printable ws ≡ true) (sym is) p
printable_with words Rules rest is p = subst (λ ws. are_printable ws ≡ true) (sym is) p

pub asks_printable : (words : List Word) (a : Asked) → Asks words a → are_printable words ≡ true
asks_printable words (asked.Upgrade f s) (rest, is, named) = printable_with words Upgrade rest is (named_printable rest f s named)
asks_printable words (asked.Check f s) (rest, is, named) = printable_with words Check rest is (named_printable rest f s named)
asks_printable words (asked.Make n) (rest, is, named) = printable_with words Make rest is (count_printable rest n named)
asks_printable words asked.Rules is = printable_with words Rules [] is refl
