-- A statement of a procedure is no head of a Sub, declares no variable, and is within the limits of the grammar.
use Rattle.std.proofs.Common.{◌≡◌, ℕ, ◌≤◌, max, nat_le, length, arith, Bool, true, false, if◌then◌else◌, ◌&&◌, Option, Some, None, option_map, option_and_then, List, [], ◌∷◌, codes, inl, inr, refl, sym, ap, ◌∙◌}
use Rattle.std.proofs.lemmas.Bool.Decides.{nat_tests}
use Rattle.std.specs.List.{list_all}
use Rattle.vb_tree.specs.declared.form_parts.Label6.{Label6}
use Rattle.vb_tree.specs.declared.token.Token.{Token}
use Rattle.vb_tree.specs.Expressions.{depth_of}
use Rattle.vb_tree.specs.Tree.{Exp, Form}
use Rattle.vb_tree.specs.Tree as tree
use Rattle.form_parts.specs.Items.{deepest}
use Rattle.form_parts.specs.Parts.{name_of_token}
use Rattle.form_parts.specs.Words.{is_key}
use Rattle.statement_forms.specs.Fronts.{behind_key, end_form, exit_form, one_word, two_words, four_words, words_form, is_zero_label, label_in, labelled, jump_form, behind_error, error_form, resume_form, named_next, next_form}
use Rattle.statement_forms.specs.LineForms.{Made, FormKind, print_items, print_kept, replacement, assignment, setting, calling, block_if, else_if, words_alone, select_head, case_items, counting, for_each_item, next_end, do_while_head, do_until_head, loop_while_end, loop_until_end, while_line, with_line, jump, error_jump, resumption, redimming, erasing, kept_words, computed_jump, invocation, drawing, Fits, FirstIn, order, IsMeant}
use Rattle.statement_forms.specs.Pieces.{ItemMeans, named_item}
use Rattle.net_tree.specs.Spelling.{is_identifier}
use Rattle.module_names.specs.Limits.{is_shallow_source, has_shallow_form}
use Rattle.up_base.proofs.Lists.{and_true, all_more}
use Rattle.module_names.specs.Named.{names_sub, variables_of}

-- a line is within the limits of the grammar, and the Sub and the variables that it declares, if it does, are named by
-- identifiers
abbrev pub is_good_form : Form → Bool
is_good_form f = has_shallow_form f && (names_sub f && list_all is_identifier (variables_of f))

abbrev pub option_names : Option Form → Bool
option_names None = true
option_names (Some f) = is_good_form f

pub found_names : (o : Option Form) (f : Form) → option_names o ≡ true → o ≡ Some f → is_good_form f ≡ true
found_names o f h e = ap option_names (sym e) ∙ h

pub either_names : (b : Bool) (x y : Option Form) → option_names x ≡ true → option_names y ≡ true → option_names (if b then x else y) ≡ true
either_names true x y h k = h
either_names false x y h k = k

pub mapped_names : {A : Type 0} (make : A → Form) (o : Option A) → ((a : A) → is_good_form (make a) ≡ true) → option_names (option_map make o) ≡ true
mapped_names make None h = refl
mapped_names make (Some a) h = h a

pub then_names : {A : Type 0} (next : A → Option Form) (o : Option A) → ((a : A) → option_names (next a) ≡ true) → option_names (option_and_then next o) ≡ true
then_names next None h = refl
then_names next (Some a) h = h a

labelled_names : (f : Form) (make : Label6 → Form) (o : Option Label6) → is_good_form f ≡ true → ((l : Label6) → is_good_form (make l) ≡ true) → option_names (labelled f make o) ≡ true
labelled_names f make None h k = refl
labelled_names f make (Some l) h k = either_names (is_zero_label l) (Some f) (Some (make l)) h (k l)

jump_names : (ts : List Token) → option_names (jump_form ts) ≡ true
jump_names ts = then_names _ (behind_key (codes "goto") ts) (λ rest. mapped_names tree.goto (label_in rest) (λ l. refl))

error_names : (ts : List Token) → option_names (error_form ts) ≡ true
error_names ts = then_names _ (behind_error ts) (λ rest. labelled_names tree.on_error_goto_zero tree.on_error_goto (label_in rest) refl (λ l. refl))

resume_names : (ts : List Token) → option_names (resume_form ts) ≡ true
resume_names ts = then_names _ (behind_key (codes "resume") ts) (λ rest. labelled_names tree.resume tree.resume_at (label_in rest) refl (λ l. refl))

named_next_names : (ts : List Token) → option_names (named_next ts) ≡ true
named_next_names [] = refl
named_next_names (t ∷ []) = mapped_names (λ n. tree.next (Some n)) (name_of_token t) (λ n. refl)
named_next_names (t ∷ u ∷ ts) = refl

next_names : (ts : List Token) → option_names (next_form ts) ≡ true
next_names ts = then_names named_next (behind_key (codes "next") ts) named_next_names

item_names : (ts : List Token) → option_names (named_item ts) ≡ true
item_names [] = refl
item_names (t ∷ []) = mapped_names (λ n. tree.next (Some n)) (name_of_token t) (λ n. refl)
item_names (t ∷ u ∷ ts) = refl

end_names : (t : Token) → option_names (end_form t) ≡ true
end_names t =
    either_names (is_key (codes "if") t) _ _ refl (either_names (is_key (codes "select") t) _ _ refl (either_names (is_key (codes "with") t) _ _ refl refl))

exit_names : (t : Token) → option_names (exit_form t) ≡ true
exit_names t =
    either_names (is_key (codes "sub") t) _ _ refl (either_names (is_key (codes "function") t) _ _ refl (either_names (is_key (codes "property") t) _ _ refl
    (either_names (is_key (codes "for") t) _ _ refl (either_names (is_key (codes "do") t) _ _ refl refl))))

one_names : (t : Token) → option_names (one_word t) ≡ true
one_names t =
    either_names (is_key (codes "else") t) _ _ refl (either_names (is_key (codes "do") t) _ _ refl (either_names (is_key (codes "loop") t) _ _ refl
    (either_names (is_key (codes "wend") t) _ _ refl (either_names (is_key (codes "resume") t) _ _ refl refl))))

two_names : (t u : Token) → option_names (two_words t u) ≡ true
two_names t u =
    either_names (is_key (codes "end") t) _ _ (end_names u) (either_names (is_key (codes "exit") t) _ _ (exit_names u)
    (either_names (is_key (codes "case") t && is_key (codes "else") u) (Some tree.case_else) _ refl
    (either_names (is_key (codes "resume") t && is_key (codes "next") u) (Some tree.resume_next) None refl refl)))

four_names : (t u v w : Token) → option_names (four_words t u v w) ≡ true
four_names t u v w =
    either_names (is_key (codes "on") t && is_key (codes "error") u && is_key (codes "resume") v && is_key (codes "next") w) (Some tree.on_error_resume_next) None refl refl

words_names : (ts : List Token) → option_names (words_form ts) ≡ true
words_names [] = refl
words_names (t ∷ []) = one_names t
words_names (t ∷ u ∷ []) = two_names t u
words_names (t ∷ u ∷ v ∷ []) = refl
words_names (t ∷ u ∷ v ∷ w ∷ []) = four_names t u v w
words_names (t ∷ u ∷ v ∷ w ∷ x ∷ more) = refl

-- ---- kinds of statements

made_names : {X : Type 0} (Is : X → Type 0) (make : X → Form) (depth : X → ℕ) (f : Form) (n : ℕ) → ((x : X) → is_good_form (make x) ≡ true) → Made Is make depth f n → is_good_form f ≡ true
made_names Is make depth f n h made = ap is_good_form made.2 ∙ h made.0

is_shallow : (d : ℕ) → d ≤ 64 → nat_le d 64 ≡ true
is_shallow d l = grind (arith, nat_tests)

items_shallow : (items : List Exp) → deepest depth_of items ≤ 64 → list_all is_shallow_source items ≡ true
items_shallow [] l = refl
items_shallow (x ∷ xs) l = all_more is_shallow_source x xs (is_shallow (depth_of x) (omega (arith, l))) (items_shallow xs (omega (arith, l)))

printed_good : (items : List Exp) (ended : Bool) (n : ℕ) → n ≤ 64 → n ≡ max (deepest depth_of items) (length items) → is_good_form (tree.debug_print items ended) ≡ true
printed_good items ended n l e =
    and_true (nat_le (length items) 64 && list_all is_shallow_source items) true
    (and_true (nat_le (length items) 64) (list_all is_shallow_source items) (is_shallow (length items) (omega (arith, l, e))) (items_shallow items (omega (arith, l, e))))
    refl

sides_good : (target value : Exp) (n : ℕ) → n ≤ 64 → n ≡ max (depth_of target) (depth_of value) → is_good_form (tree.assign target value) ≡ true
sides_good target value n l e =
    and_true (is_shallow_source target && is_shallow_source value) true
    (and_true (is_shallow_source target) (is_shallow_source value) (is_shallow (depth_of target) (omega (arith, l, e))) (is_shallow (depth_of value) (omega (arith, l, e))))
    refl

fits_names : (k : FormKind) (ts : List Token) (f : Form) (n : ℕ) → n ≤ 64 → Fits k ts f n → is_good_form f ≡ true
fits_names print_items ts f n l h = ap is_good_form h.2 ∙ printed_good h.0.0 h.0.1 n l h.3
fits_names print_kept ts f n l h = ap is_good_form h.1
fits_names replacement ts f n l h = made_names _ _ _ f n (λ x. refl) h
fits_names assignment ts f n l h = ap is_good_form h.2 ∙ sides_good h.0.0 h.0.1 n l h.3
fits_names setting ts f n l h = made_names _ _ _ f n (λ x. refl) h
fits_names calling ts f n l h = made_names _ _ _ f n (λ x. refl) h
fits_names block_if ts f n l h = made_names _ _ _ f n (λ x. refl) h
fits_names else_if ts f n l h = made_names _ _ _ f n (λ x. refl) h
fits_names words_alone ts f n l h = found_names (words_form ts) f (words_names ts) h.0
fits_names select_head ts f n l h = made_names _ _ _ f n (λ x. refl) h
fits_names case_items ts f n l h = made_names _ _ _ f n (λ x. refl) h
fits_names counting ts f n l h = made_names _ _ _ f n (λ x. refl) h
fits_names for_each_item ts f n l h = made_names _ _ _ f n (λ x. refl) h
fits_names next_end ts f n l h = found_names (next_form ts) f (next_names ts) h.0
fits_names do_while_head ts f n l h = made_names _ _ _ f n (λ x. refl) h
fits_names do_until_head ts f n l h = made_names _ _ _ f n (λ x. refl) h
fits_names loop_while_end ts f n l h = made_names _ _ _ f n (λ x. refl) h
fits_names loop_until_end ts f n l h = made_names _ _ _ f n (λ x. refl) h
fits_names while_line ts f n l h = made_names _ _ _ f n (λ x. refl) h
fits_names with_line ts f n l h = made_names _ _ _ f n (λ x. refl) h
fits_names jump ts f n l h = found_names (jump_form ts) f (jump_names ts) h.0
fits_names error_jump ts f n l h = found_names (error_form ts) f (error_names ts) h.0
fits_names resumption ts f n l h = found_names (resume_form ts) f (resume_names ts) h.0
fits_names redimming ts f n l h = made_names _ _ _ f n (λ x. refl) h
fits_names erasing ts f n l h = made_names _ _ _ f n (λ x. refl) h
fits_names kept_words ts f n l h = ap is_good_form h.1
fits_names computed_jump ts f n l h = made_names _ _ _ f n (λ x. refl) h
fits_names invocation ts f n l h = made_names _ _ _ f n (λ x. refl) h
fits_names drawing ts f n l h = made_names _ _ _ f n (λ x. refl) h

first_names : (ks : List FormKind) (ts : List Token) (f : Form) (n : ℕ) → n ≤ 64 → FirstIn ks ts f n → is_good_form f ≡ true
first_names [] ts f n l h = absurd h
first_names (k ∷ ks) ts f n l (inl h) = fits_names k ts f n l h
first_names (k ∷ ks) ts f n l (inr h) = first_names ks ts f n l h.1

pub meant_names : (ts : List Token) (f : Form) (n : ℕ) → n ≤ 64 → IsMeant ts f n → is_good_form f ≡ true
meant_names ts f n l h = first_names order ts f n l h

pub item_means_names : (erases : Bool) (ts : List Token) (f : Form) (n : ℕ) → ItemMeans erases ts f n → is_good_form f ≡ true
item_means_names true ts f n h = made_names _ tree.erase _ f n (λ x. refl) h
item_means_names false ts f n h = found_names (named_item ts) f (item_names ts) h.0
