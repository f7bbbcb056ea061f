-- Words ask for one thing.
use Rattle.std.proofs.Common.{◌≡◌, inl, inr, ℕ, true, false, List, [], ◌∷◌, Option, codes, refl, sym, ap, ◌∙◌, subst}
use Rattle.std.specs.Str.{bytes_eq}
use Rattle.std.proofs.lemmas.Option.{same_Some}
use Rattle.command_words.specs.Asks.{Asks, NameFile}
use Rattle.command_words.specs.declared.asked.Asked.TheVariants as asked
use Rattle.command_words.proofs.Requests.{named_is_found}
use Rattle.wizard_cli.specs.Runs.{AsksFor}

abbrev Word : Type 0
Word = List ℕ

first : List Word → Word
first [] = []
first (w ∷ ws) = w

behind : List Word → List Word
behind [] = []
behind (w ∷ ws) = ws

-- words that begin with one command word don't begin with another
other_command : (words : List Word) (v w : Word) (r s : List Word) → bytes_eq v w ≡ false → bytes_eq w w ≡ true → words ≡ v ∷ r → words ≡ w ∷ s → ⊥
unfolding first
other_command words v w r s differ same p q =
    let is : v ≡ w = ap first (sym p ∙ q) in
    let bad : false ≡ true = sym differ ∙ ap (λ x. bytes_eq x w) is ∙ same in cc bad

-- words behind a command word name one file and one settings file
named_once : (words : List Word) (f g : Word) (s t : Option Word) → NameFile words f s → NameFile words g t → (f ≡ g) × (s ≡ t)
named_once words f g s t p q =
    let a = named_is_found ([] ∷ words) f s p in
    let b = named_is_found ([] ∷ words) g t q in
    (same_Some f g (sym a.file_is ∙ b.file_is), sym a.settings_are ∙ b.settings_are)

of_same : (words : List Word) (v : Word) (f g : Word) (s t : Option Word) (h : (rest : List Word) × (words ≡ v ∷ rest) × NameFile rest f s) (k : (rest : List Word) × (words ≡ v ∷ rest) × NameFile rest g t) → (f ≡ g) × (s ≡ t)
unfolding behind
of_same words v f g s t h k =
    let rest : h.0 ≡ k.0 = ap behind (sym h.1 ∙ k.1) in
    named_once k.0 f g s t (subst (λ ws. NameFile ws f s) rest h.2) k.2

pub upgrade_once : (words : List Word) (f g : Word) (s t : Option Word) → Asks words (asked.Upgrade f s) → Asks words (asked.Upgrade g t) → (f ≡ g) × (s ≡ t)
upgrade_once words f g s t h k = of_same words (codes "upgrade") f g s t h k

pub check_once : (words : List Word) (f g : Word) (s t : Option Word) → Asks words (asked.Check f s) → Asks words (asked.Check g t) → (f ≡ g) × (s ≡ t)
check_once words f g s t h k = of_same words (codes "check") f g s t h k

pub upgrade_or_check : (words : List Word) (f g : Word) (s t : Option Word) → Asks words (asked.Upgrade f s) → Asks words (asked.Check g t) → ⊥
upgrade_or_check words f g s t h k = other_command words (codes "upgrade") (codes "check") h.0 k.0 refl refl h.1 k.1

pub upgrade_or_make : (words : List Word) (f : Word) (s : Option Word) (n : ℕ) → Asks words (asked.Upgrade f s) → Asks words (asked.Make n) → ⊥
upgrade_or_make words f s n h k = other_command words (codes "upgrade") (codes "make") h.0 k.0 refl refl h.1 k.1

pub upgrade_or_rules : (words : List Word) (f : Word) (s : Option Word) → Asks words (asked.Upgrade f s) → Asks words asked.Rules → ⊥
upgrade_or_rules words f s h k = other_command words (codes "upgrade") (codes "rules") h.0 [] refl refl h.1 k

pub check_or_make : (words : List Word) (f : Word) (s : Option Word) (n : ℕ) → Asks words (asked.Check f s) → Asks words (asked.Make n) → ⊥
check_or_make words f s n h k = other_command words (codes "check") (codes "make") h.0 k.0 refl refl h.1 k.1

pub check_or_rules : (words : List Word) (f : Word) (s : Option Word) → Asks words (asked.Check f s) → Asks words asked.Rules → ⊥
check_or_rules words f s h k = other_command words (codes "check") (codes "rules") h.0 [] refl refl h.1 k

pub make_or_rules : (words : List Word) (n : ℕ) → Asks words (asked.Make n) → Asks words asked.Rules → ⊥
make_or_rules words n h k = other_command words (codes "make") (codes "rules") h.0 [] refl refl h.1 k

pub for_once : (words : List Word) (f g : Word) (s t : Option Word) → AsksFor words f s → AsksFor words g t → (f ≡ g) × (s ≡ t)
for_once words f g s t (inl h) (inl k) = upgrade_once words f g s t h k
for_once words f g s t (inl h) (inr k) = absurd (upgrade_or_check words f g s t h k)
for_once words f g s t (inr h) (inl k) = absurd (upgrade_or_check words g f t s k h)
for_once words f g s t (inr h) (inr k) = check_once words f g s t h k

pub for_or_make : (words : List Word) (f : Word) (s : Option Word) (n : ℕ) → AsksFor words f s → Asks words (asked.Make n) → ⊥
for_or_make words f s n (inl h) k = upgrade_or_make words f s n h k
for_or_make words f s n (inr h) k = check_or_make words f s n h k

pub for_or_rules : (words : List Word) (f : Word) (s : Option Word) → AsksFor words f s → Asks words asked.Rules → ⊥
for_or_rules words f s (inl h) k = upgrade_or_rules words f s h k
for_or_rules words f s (inr h) k = check_or_rules words f s h k
