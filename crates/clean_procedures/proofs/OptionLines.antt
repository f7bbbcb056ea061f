-- Option and Def lines that break a rule, as the code notes them.
use Rattle.std.proofs.Common.{◌≡◌, ℕ, ◌+◌, suc, zero, Bool, true, false, List, [], ◌∷◌, map, refl, ap, subst, ◌∙◌, arith, inl, inr, cond, nat_eq}
use Rattle.std.specs.Prelude.{◌||◌, slice_get}
use Rattle.std.specs.List.{list_any}
use Rattle.vb_tree.specs.FlatLines.{module_lines}
use Rattle.vb_tree.specs.Tree.{Form, option_compare, def_type, Module}
use Rattle.vb_tree.specs.Tree as vb
use Rattle.bound_tree.specs.RuleSets.{has, is_broken, none}
use Rattle.bound_facts.specs.Clean.{Point, option_line, form_broken, is_option, option_broken, option_rules, options_from, options_of}
use Rattle.clean_procedures.specs.Options.{has_broken, is_broken_at, is_broken_line, is_set, noted}
use Rattle.clean_procedures.proofs.Among.{Among}

none_whole : is_broken none ≡ false
unfolding has none
none_whole = refl

-- a line that breaks one of these rules is an Option or a Def line
broken_is_option : (f : Form) → is_broken (option_rules f) ≡ true → is_option f ≡ true
broken_is_option (option_compare way) h = refl
broken_is_option (def_type word ranges) h = refl
broken_is_option _ h = absurd (let e = none_whole in cc (e, h))

-- ---- one line of a module

flag_is : (ls : List vb.Line) (n : ℕ) → is_set (slice_get (map is_broken_line ls) n) ≡ form_broken (slice_get ls n)
flag_is [] n = refl
flag_is (l ∷ ls) zero = refl
flag_is (l ∷ ls) (suc n) = flag_is ls n

chosen : (b : Bool) {x y u v : Bool} → x ≡ u → y ≡ v → cond b x y ≡ cond b u v
chosen true e h = e
chosen false e h = h

pub broken_at_is : (file n : ℕ) (ms : List Module) → is_broken_at file n (map noted ms) ≡ option_broken file n ms
broken_at_is file n [] = refl
broken_at_is file n (m ∷ ms) = chosen (nat_eq m.file file) (flag_is (module_lines m) n) (broken_at_is file n ms)

-- ---- some line of a module

or_true : (b : Bool) → (b || true) ≡ true
or_true true = refl
or_true false = refl

flags_have : (ls : List vb.Line) (n : ℕ) → form_broken (slice_get ls n) ≡ true → list_any (λ b. b) (map is_broken_line ls) ≡ true
flags_have [] n h = absurd (cc h)
flags_have (l ∷ ls) zero h = ap (λ b. b || list_any (λ c. c) (map is_broken_line ls)) h
flags_have (l ∷ ls) (suc n) h = ap (λ b. is_broken_line l || b) (flags_have ls n h) ∙ or_true (is_broken_line l)

in_first : (file n : ℕ) (b : Bool) (m : Module) (ms : List Module) → cond b (form_broken (slice_get (module_lines m) n)) (option_broken file n ms) ≡ true
    → (option_broken file n ms ≡ true → has_broken file (map noted ms) ≡ true) → cond b (list_any (λ c. c) (map is_broken_line (module_lines m))) (has_broken file (map noted ms)) ≡ true
in_first file n true m ms h more = flags_have (module_lines m) n h
in_first file n false m ms h more = more h

pub broken_has : (file n : ℕ) (ms : List Module) → option_broken file n ms ≡ true → has_broken file (map noted ms) ≡ true
broken_has file n [] h = absurd (cc h)
broken_has file n (m ∷ ms) h = in_first file n (nat_eq m.file file) m ms h (broken_has file n ms)

-- the line that breaks a rule, from the place k on
abbrev LineAt : ℕ → ℕ → List vb.Line → Type 0
LineAt file k ls = (n : ℕ) × (form_broken (slice_get ls n) ≡ true) × Among (options_from file k ls) (option_line file (k + n))

listed : (file k : ℕ) (b : Bool) (rest : List Point) → b ≡ true → Among (cond b (option_line file k ∷ rest) rest) (option_line file (k + 0))
listed file k true rest e = inl (ap (option_line file) (let i : k ≡ k + 0 = omega arith in i))
listed file k false rest e = absurd (cc e)

listed_later : (file k : ℕ) (b : Bool) (rest : List Point) (q : Point) → Among rest q → Among (cond b (option_line file k ∷ rest) rest) q
listed_later file k true rest q h = inr h
listed_later file k false rest q h = h

line_step : (file k : ℕ) (l : vb.Line) (ls : List vb.Line) (b : Bool) → is_broken_line l ≡ b → (b || list_any (λ c. c) (map is_broken_line ls)) ≡ true
    → (list_any (λ c. c) (map is_broken_line ls) ≡ true → LineAt file (suc k) ls) → LineAt file k (l ∷ ls)
line_step file k l ls true e h more = (0, e, listed file k (is_option l.form) (options_from file (suc k) ls) (broken_is_option l.form e))
line_step file k l ls false e h more =
    let m = more h in (
      suc m.0,
      m.1,
      subst (λ n. Among (options_from file k (l ∷ ls)) (option_line file n)) (let i : suc k + m.0 ≡ k + suc m.0 = omega arith in i)
          (listed_later file k (is_option l.form) (options_from file (suc k) ls) (option_line file (suc k + m.0)) m.2),
    )

line_at : (file k : ℕ) (ls : List vb.Line) → list_any (λ c. c) (map is_broken_line ls) ≡ true → LineAt file k ls
line_at file k [] h = absurd (cc h)
line_at file k (l ∷ ls) h = line_step file k l ls (is_broken_line l) refl h (line_at file (suc k) ls)

abbrev pub OptionAt : ℕ → List Module → Type 0
OptionAt file ms = (n : ℕ) × (option_broken file n ms ≡ true) × Among (options_of file ms) (option_line file n)

first_at : (file : ℕ) (b : Bool) (m : Module) (ms : List Module) → cond b (list_any (λ c. c) (map is_broken_line (module_lines m))) (has_broken file (map noted ms)) ≡ true
    → (has_broken file (map noted ms) ≡ true → OptionAt file ms)
    → (n : ℕ) × (cond b (form_broken (slice_get (module_lines m) n)) (option_broken file n ms) ≡ true) × Among (cond b (options_from file 0 (module_lines m)) (options_of file ms)) (option_line file n)
first_at file true m ms h more =
    let l = line_at file 0 (module_lines m) h in
    (l.0, l.1, subst (λ n. Among (options_from file 0 (module_lines m)) (option_line file n)) (let i : 0 + l.0 ≡ l.0 = omega arith in i) l.2)
first_at file false m ms h more = more h

pub has_at : (file : ℕ) (ms : List Module) → has_broken file (map noted ms) ≡ true → OptionAt file ms
has_at file [] h = absurd (cc h)
has_at file (m ∷ ms) h = first_at file (nat_eq m.file file) m ms h (has_at file ms)

-- ---- the lines that stand for a module are of its file

of_line : (file k : ℕ) (b : Bool) (rest : List Point) (q : Point) → Among (cond b (option_line file k ∷ rest) rest) q → (Among rest q → (n : ℕ) × (option_line file n ≡ q)) → (n : ℕ) × (option_line file n ≡ q)
of_line file k true rest q (inl e) more = (k, e)
of_line file k true rest q (inr h) more = more h
of_line file k false rest q h more = more h

of_lines : (file k : ℕ) (ls : List vb.Line) (q : Point) → Among (options_from file k ls) q → (n : ℕ) × (option_line file n ≡ q)
of_lines file k [] q h = absurd h
of_lines file k (l ∷ ls) q h = of_line file k (is_option l.form) (options_from file (suc k) ls) q h (of_lines file (suc k) ls q)

of_first : (file : ℕ) (b : Bool) (m : Module) (ms : List Module) (q : Point) → Among (cond b (options_from file 0 (module_lines m)) (options_of file ms)) q
    → (Among (options_of file ms) q → (n : ℕ) × (option_line file n ≡ q)) → (n : ℕ) × (option_line file n ≡ q)
of_first file true m ms q h more = of_lines file 0 (module_lines m) q h
of_first file false m ms q h more = more h

pub of_module : (file : ℕ) (ms : List Module) (q : Point) → Among (options_of file ms) q → (n : ℕ) × (option_line file n ≡ q)
of_module file [] q h = absurd h
of_module file (m ∷ ms) q h = of_first file (nat_eq m.file file) m ms q h (of_module file ms q)
