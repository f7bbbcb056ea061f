-- What clap takes behind `upgrade` and `check`, beside the forms of these words.
use Rattle.std.proofs.Common.{◌≡◌, inl, inr, Bool, true, false, not, ◌&&◌, ◌==◌, List, [], ◌∷◌, ◌++◌, drop, Option, Some, None, codes, refl, sym, ap, ap₂, subst, ◌∙◌}
use Rattle.std.proofs.lemmas.Bool.{cases_Bool, eqb-true, and_parts}
use Rattle.std.proofs.lemmas.List.Folds.{list_all-append}
use Rattle.std.proofs.lemmas.Option.{same_Some}
use Rattle.std.proofs.lemmas.Slice.Eq.{bytes_eq-Decides}
use Rattle.std.specs.Str.{bytes_eq}
use Rattle.up_base.specs.Names.{is_name}
use Rattle.clap.specs.Walk.{Text}
use Rattle.command_words.specs.Asks.{AreSettings, NameFile, SpellFile, SpellSettings, begins_with_minus, is_project_file, is_settings_name}
use Rattle.command_words.specs.Commands.{are_printable, file_faults, file_found, last_is_dashes}
use Rattle.command_words.proofs.Walks.{FileWords, FormWords, OptionWords, absent, after_one_word, after_two_words, alone, apart, before_option, behind, fault_is, file_alone, file_in, file_of, form_words, gives, in_one, settings_in, settings_of}
use Rattle.command_words.proofs.WordClasses.{Plain, dashes, flag, joined, plain_without_minus, printable}

-- ---- words that begin with a minus sign

pub plain_of : (word : Text) → begins_with_minus word ≡ false → Plain word
plain_of [] e = record { apart = refl; long = refl; short = refl }
plain_of (c ∷ cs) e = plain_without_minus c cs e

two_minus : (cs : Text) → Plain (45 ∷ 45 ∷ cs) → ⊥
two_minus [] h = cc h.apart
two_minus (c ∷ cs) h = cc h.long

one_minus : (cs : Text) → Plain (45 ∷ cs) → is_project_file (45 ∷ cs) ≡ true → ⊥
one_minus [] h p = cc p
one_minus (d ∷ ds) h p = elim (cases_Bool (d == 45)) [
  | inl same ↦ two_minus ds (subst (λ c. Plain (45 ∷ c ∷ ds)) (eqb-true d 45 same) h)
  | inr other ↦ cc (rw other at h.short)
]

-- a project file that is no flag begins with no minus sign
minus_free : (f : Text) → Plain f → is_project_file f ≡ true → begins_with_minus f ≡ false
minus_free [] h p = refl
minus_free (c ∷ cs) h p = elim (cases_Bool (c == 45)) [
  | inl same ↦ absurd (one_minus cs (subst (λ x. Plain (x ∷ cs)) (eqb-true c 45 same) h) (subst (λ x. is_project_file (x ∷ cs) ≡ true) (eqb-true c 45 same) p))
  | inr other ↦ other
]

pub denied : (b : Bool) → not b ≡ true → b ≡ false
denied true e = absurd (cc e)
denied false e = refl

plain_name : (v : Text) → is_settings_name v ≡ true → Plain v
plain_name v p = plain_of v (denied (begins_with_minus v) (and_parts (is_name v) (not (begins_with_minus v)) p).1)

-- ---- forms of words, and what they name

spelt : {words : List Text} → (fw : FileWords words) → is_project_file (file_of fw) ≡ true → SpellFile (file_of fw) words
spelt (alone f h e) p = inl (minus_free f h p, e)
spelt (behind f e) p = inr e

spelt_option : {words : List Text} → (o : OptionWords words) → SpellSettings (settings_of o) words
spelt_option (absent e) = e
spelt_option (apart v h e) = inl e
spelt_option (in_one v e) = inr e

name_file : (words : List Text) → (form : FormWords words) → is_project_file (file_in form) ≡ true → AreSettings (settings_in form) → NameFile words (file_in form) (settings_in form)
name_file words (file_alone fw) p s = record { is_file = p; are_settings = s; words_are = inl ([], words, refl, spelt fw p, refl) }
name_file words (after_two_words v h more e fw) p s = record { is_file = p; are_settings = s; words_are = inl (flag ∷ v ∷ [], more, inl refl, spelt fw p, e) }
name_file words (after_one_word v more e fw) p s = record { is_file = p; are_settings = s; words_are = inl (joined v ∷ [], more, inr refl, spelt fw p, e) }
name_file words (before_option f h more e o) p s = record { is_file = p; are_settings = s; words_are = inr (more, spelt_option o, minus_free f h p, e) }

-- words of a form that name these two
record FormOf (words : List Text) (f : Text) (s : Option Text) : Type 0 where
  pub form : FormWords words
  pub file_is : file_in form ≡ f
  pub settings_are : settings_in form ≡ s

file_spelt : (f : Text) (words : List Text) → SpellFile f words → (fw : FileWords words) × (file_of fw ≡ f)
file_spelt f words (inl (free, e)) = (alone f (plain_of f free) e, refl)
file_spelt f words (inr e) = (behind f e, refl)

form_of : (words : List Text) (f : Text) (s : Option Text) → NameFile words f s → FormOf words f s
form_of words f None named = elim named.words_are [
  | inl (option, ending, o, e, is) ↦
      let all : words ≡ ending = is ∙ ap (λ ws. ws ++ ending) o in
      elim e [
        | inl (free, one) ↦ record { form = file_alone (alone f (plain_of f free) (all ∙ one)); file_is = refl; settings_are = refl }
        | inr two ↦ record { form = file_alone (behind f (all ∙ two)); file_is = refl; settings_are = refl }
      ]
  | inr (option, o, free, is) ↦ record { form = before_option f (plain_of f free) option is (absent o); file_is = refl; settings_are = refl }
]
form_of words f (Some v) named =
    let plain = plain_name v named.are_settings in
    elim named.words_are [
      | inl (option, ending, o, e, is) ↦
          let (fw, same) = file_spelt f ending e in
          elim o [
            | inl two ↦ record { form = after_two_words v plain ending (is ∙ ap (λ ws. ws ++ ending) two) fw; file_is = same; settings_are = refl }
            | inr one ↦ record { form = after_one_word v ending (is ∙ ap (λ ws. ws ++ ending) one) fw; file_is = same; settings_are = refl }
          ]
      | inr (option, o, free, is) ↦ elim o [
        | inl two ↦ record { form = before_option f (plain_of f free) option is (apart v plain two); file_is = refl; settings_are = refl }
        | inr one ↦ record { form = before_option f (plain_of f free) option is (in_one v one); file_is = refl; settings_are = refl }
      ]
    ]

-- ---- the last word

not_dashes : (f : Text) → is_project_file f ≡ true → bytes_eq f dashes ≡ false
not_dashes f p = elim (cases_Bool (bytes_eq f dashes)) [
  | inl same ↦ absurd (let bad : false ≡ true = subst (λ x. is_project_file x ≡ true) ((bytes_eq-Decides f dashes).0 same) p in cc bad)
  | inr other ↦ other
]

last_of_file : (before : Text) (words : List Text) → (fw : FileWords words) → is_project_file (file_of fw) ≡ true → last_is_dashes (before ∷ words) ≡ false
last_of_file before words (alone f h e) p = subst (λ ws. last_is_dashes (before ∷ ws) ≡ false) (sym e) (not_dashes f p)
last_of_file before words (behind f e) p = subst (λ ws. last_is_dashes (before ∷ ws) ≡ false) (sym e) (not_dashes f p)

last_of_option : (f : Text) (words : List Text) → OptionWords words → is_project_file f ≡ true → last_is_dashes (f ∷ words) ≡ false
last_of_option f words (absent e) p = subst (λ ws. last_is_dashes (f ∷ ws) ≡ false) (sym e) (not_dashes f p)
last_of_option f words (apart v h e) p = subst (λ ws. last_is_dashes (f ∷ ws) ≡ false) (sym e) h.apart
last_of_option f words (in_one v e) p = subst (λ ws. last_is_dashes (f ∷ ws) ≡ false) (sym e) refl

last_of_form : (before : Text) (words : List Text) → (form : FormWords words) → is_project_file (file_in form) ≡ true → last_is_dashes (before ∷ words) ≡ false
last_of_form before words (file_alone fw) p = last_of_file before words fw p
last_of_form before words (after_two_words v h more e fw) p = subst (λ ws. last_is_dashes (before ∷ ws) ≡ false) (sym e) (last_of_file v more fw p)
last_of_form before words (after_one_word v more e fw) p = subst (λ ws. last_is_dashes (before ∷ ws) ≡ false) (sym e) (last_of_file (joined v) more fw p)
last_of_form before words (before_option f h more e o) p = subst (λ ws. last_is_dashes (before ∷ ws) ≡ false) (sym e) (last_of_option f more o p)

last_behind : (words : List Text) → last_is_dashes words ≡ false → last_is_dashes (drop 1 words) ≡ false
last_behind [] e = refl
last_behind (word ∷ []) e = refl
last_behind (word ∷ next ∷ more) e = e

printable_behind : (words : List Text) → are_printable words ≡ true → are_printable (drop 1 words) ≡ true
printable_behind [] e = refl
printable_behind (word ∷ more) e = (and_parts _ _ e).1

-- ---- what clap finds is what the words name

-- what clap finds behind the first word, where the last isn't two minus signs, is named there
pub found_is_named : (words : List Text) (f : Text) (s : Option Text) → are_printable words ≡ true → last_is_dashes words ≡ false → file_faults words ≡ []
    → file_found (codes "FILE") words ≡ Some f → file_found (codes "settings") words ≡ s → is_project_file f ≡ true → AreSettings s → NameFile (drop 1 words) f s
unfolding file_faults file_found
found_is_named words f s p ends none file_is settings_are is_file are_settings =
    let form = form_words (drop 1 words) (printable_behind words p) (last_behind words ends) (sym (fault_is words) ∙ none) in
    let given = gives (drop 1 words) form in
    let same_file : file_in form ≡ f = same_Some _ _ (sym given.file_is ∙ file_is) in
    let same_settings : settings_in form ≡ s = sym given.settings_are ∙ settings_are in
    subst (λ x. NameFile (drop 1 words) x s) same_file (subst (λ x. NameFile (drop 1 words) (file_in form) x) same_settings
    (name_file (drop 1 words) form (subst (λ x. is_project_file x ≡ true) (sym same_file) is_file) (subst AreSettings (sym same_settings) are_settings)))

-- what is named behind the first word, clap finds
pub record IsFound (words : List Text) (f : Text) (s : Option Text) : Type 0 where
  pub faultless : file_faults words ≡ []
  pub ends : last_is_dashes words ≡ false
  pub file_is : file_found (codes "FILE") words ≡ Some f
  pub settings_are : file_found (codes "settings") words ≡ s

pub named_is_found : (words : List Text) (f : Text) (s : Option Text) → NameFile (drop 1 words) f s → IsFound words f s
unfolding file_faults file_found
named_is_found words f s named =
    let of = form_of (drop 1 words) f s named in
    let given = gives (drop 1 words) of.form in
    record {
      faultless = fault_is words ∙ given.faultless;
      ends = last words of.form (subst (λ x. is_project_file x ≡ true) (sym of.file_is) named.is_file);
      file_is = given.file_is ∙ ap Some of.file_is;
      settings_are = given.settings_are ∙ of.settings_are;
    }
  where
    last : (ws : List Text) → (form : FormWords (drop 1 ws)) → is_project_file (file_in form) ≡ true → last_is_dashes ws ≡ false
    last [] form p = refl
    last (word ∷ more) form p = last_of_form word more form p

-- ---- words of a form are printable

name_printable : (word : Text) → is_name word ≡ true → printable word ≡ true
name_printable word p = (and_parts _ _ p).1

file_printable : (f : Text) (words : List Text) → is_project_file f ≡ true → SpellFile f words → are_printable words ≡ true
file_printable f words p s =
    let here = name_printable f (and_parts _ _ (and_parts _ _ p).0).0 in
    elim s [
      | inl (free, e) ↦ subst (λ ws. are_printable ws ≡ true) (sym e) (rw here refl)
      | inr e ↦ subst (λ ws. are_printable ws ≡ true) (sym e) (rw here refl)
    ]

settings_printable : (s : Option Text) (words : List Text) → AreSettings s → SpellSettings s words → are_printable words ≡ true
settings_printable None words p e = subst (λ ws. are_printable ws ≡ true) (sym e) refl
settings_printable (Some v) words p s =
    let here = name_printable v (and_parts (is_name v) (not (begins_with_minus v)) p).0 in
    elim s [
      | inl e ↦ subst (λ ws. are_printable ws ≡ true) (sym e) (rw here refl)
      | inr e ↦ subst (λ ws. are_printable ws ≡ true) (sym e) (rw here refl)
    ]

pub named_printable : (words : List Text) (f : Text) (s : Option Text) → NameFile words f s → are_printable words ≡ true
named_printable words f s named = elim named.words_are [
  | inl (option, ending, o, e, is) ↦
      subst (λ ws. are_printable ws ≡ true) (sym is)
      (list_all-append printable option ending
      ∙ ap₂ (λ a b. a && b) (settings_printable s option named.are_settings o) (file_printable f ending named.is_file e))
  | inr (option, o, free, is) ↦
      subst (λ ws. are_printable ws ≡ true) (sym is)
      (ap₂ (λ a b. a && b) (name_printable f (and_parts _ _ (and_parts _ _ named.is_file).0).0) (settings_printable s option named.are_settings o))
]
