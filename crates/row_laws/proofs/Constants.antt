-- What is written for a constant gives its value.
use Rattle.std.proofs.Common.{◌≡◌, ℕ, Bool, true, false, cond, pos, List, [], ◌∷◌, ◌++◌, codes, refl, sym, ap, ◌∙◌, append_assoc}
use Rattle.std.proofs.lemmas.List.{append-nil}
use Rattle.std.specs.List.{list_all}
use Rattle.std.specs.Prelude.{nat_le}
use Rattle.up_base.proofs.Tests.{both_true, and_true}
use Rattle.vb6_meaning.specs.Answers.{Answer}
use Rattle.vb6_meaning.specs.Answers as value
use Rattle.net_tree.specs.declared.expression.NetBin.TheVariants as op
use Rattle.net_tree.specs.declared.expression.CastWord.TheVariants as word
use Rattle.net_tree.specs.declared.expression.NetUn.TheVariants as un
use Rattle.net_tree.specs.declared.expression.OpN.TheVariants.{Bin}
use Rattle.net_tree.specs.Tree.{Exp}
use Rattle.net_tree.specs.Tree as net
use Rattle.net_meaning.specs.declared.value.ValueN.TheVariants as n
use Rattle.net_meaning.specs.Library.{unit_text}
use Rattle.net_meaning.specs.Operators.{operate_net}
use Rattle.net_meaning.specs.WrittenLiterals.{negative, as_byte, constant_value}
use Rattle.written_trees.specs.Literals.{Piece, quoted, unit, Pieces, is_plain, behind, pieces_of, text, number, piece_exp, joined, text_exp}
use Rattle.written_trees.specs.Names.{strings}
use Rattle.run_base.specs.Outcomes.{then}
use Rattle.net_run.specs.Values.{single}
use Rattle.net_run.specs.Store.{Memory}
use Rattle.net_run.specs.Names.{Scope, starts, named, to_library, path_start}
use Rattle.net_run.specs.Making.{Jobs}
use Rattle.net_run.specs.Expressions.{value_of}
use Rattle.row_laws.specs.Uncaptured.{IsTextUncaptured}
use Rattle.row_laws.specs.Follows.{single_value, answers, on_values}
use Rattle.row_laws.specs.Constants.{are_units}
use Rattle.row_laws.proofs.Composing.{after_nil}
use Rattle.row_laws.proofs.Values.{cast_gives, unary_gives, binary_gives}
use Rattle.row_laws.proofs.Calls.{one_gives}
use Rattle.row_laws.proofs.Support.{free_start}

-- ---- texts

abbrev piece_text : Piece → List ℕ
piece_text (quoted run) = run
piece_text (unit c) = c ∷ []

abbrev text_of : List Piece → List ℕ
text_of [] = []
text_of (p ∷ more) = piece_text p ++ text_of more

abbrev is_fit : Piece → Bool
is_fit (quoted run) = true
is_fit (unit c) = nat_le c 65535

behind_text : (run : List ℕ) (more : List Piece) → text_of (behind run more) ≡ run ++ text_of more
behind_text [] more = refl
behind_text (c ∷ run) more = refl

behind_fit : (run : List ℕ) (more : List Piece) → list_all is_fit more ≡ true → list_all is_fit (behind run more) ≡ true
behind_fit [] more h = h
behind_fit (c ∷ run) more h = h

abbrev front : Bool → ℕ → Pieces → Pieces
front b c p = cond b (record { first = c ∷ p.first; more = p.more }) (record { first = []; more = unit c ∷ behind p.first p.more })

front_text : (b : Bool) (c : ℕ) (p : Pieces) (units : List ℕ) → p.first ++ text_of p.more ≡ units → (front b c p).first ++ text_of (front b c p).more ≡ c ∷ units
front_text true c p units e = ap (λ t. c ∷ t) e
front_text false c p units e = ap (λ t. c ∷ t) (behind_text p.first p.more ∙ e)

pieces_text : (units : List ℕ) → (pieces_of units).first ++ text_of (pieces_of units).more ≡ units
pieces_text [] = refl
pieces_text (c ∷ units) = front_text (is_plain c) c (pieces_of units) units (pieces_text units)

front_fit : (b : Bool) (c : ℕ) (p : Pieces) → nat_le c 65535 ≡ true → list_all is_fit p.more ≡ true → list_all is_fit (front b c p).more ≡ true
front_fit true c p e h = h
front_fit false c p e h = and_true (nat_le c 65535) (list_all is_fit (behind p.first p.more)) e (behind_fit p.first p.more h)

pieces_fit : (units : List ℕ) → are_units units ≡ true → list_all is_fit (pieces_of units).more ≡ true
pieces_fit [] h = refl
pieces_fit (c ∷ units) h =
    let both = both_true (nat_le c 65535) (are_units units) h in
    front_fit (is_plain c) c (pieces_of units) both.0 (pieces_fit units both.1)

unit_given : (c : ℕ) → nat_le c 65535 ≡ true → unit_text (n.Integer (pos c)) ≡ value.gives (n.Str (c ∷ []))
unit_given c h = ap (λ z. cond z (value.gives (n.Str (c ∷ []))) (value.raises 5)) h

module _ (S : Scope) (oracle : Jobs) where
  -- ---- whole numbers, Booleans and Currencies

  pub byte_gives : (m : ℕ) (w : Memory) → value_of S oracle (net.cast word.CByte (net.lit (net.short (pos m) false))) w ≡ answers (constant_value (as_byte (net.short (pos m) false))) w
  byte_gives m w = cast_gives S oracle word.CByte (net.lit (net.short (pos m) false)) w ∙ after_nil (answers (constant_value (as_byte (net.short (pos m) false))) w)

  pub negative_gives : (l : net.Literal) (w : Memory) → value_of S oracle (net.unary un.Neg (net.lit l)) w ≡ answers (constant_value (negative l)) w
  negative_gives l w = unary_gives S oracle un.Neg (net.lit l) w ∙ after_nil (answers (constant_value (negative l)) w)

  module _ (free : IsTextUncaptured S) where
    strings_start : (name : List ℕ) → path_start S true (strings name) ≡ starts (named (to_library (strings name))) []
    strings_start name = free_start S (codes "Microsoft") (codes "VisualBasic") (codes "Strings" ∷ name ∷ []) free

    piece_gives : (p : Piece) (w : Memory) → is_fit p ≡ true → value_of S oracle (piece_exp p) w ≡ single_value (n.Str (piece_text p)) w
    piece_gives (quoted run) w h = refl
    piece_gives (unit c) w h =
        one_gives S oracle (to_library (strings (codes "ChrW"))) (strings (codes "ChrW")) (strings_start (codes "ChrW")) refl unit_text (λ gs w. refl) (number c) w
        ∙ after_nil (answers (unit_text (n.Integer (pos c))) w)
        ∙ ap (λ a. answers a w) (unit_given c h)

    joined_gives : (e : Exp) (s : List ℕ) (more : List Piece) → ((w : Memory) → value_of S oracle e w ≡ single_value (n.Str s) w) → list_all is_fit more ≡ true
        → (w : Memory) → value_of S oracle (joined e more) w ≡ single_value (n.Str (s ++ text_of more)) w
    joined_gives e s [] h fit w = h w ∙ ap (λ t. single_value (n.Str t) w) (sym (append-nil s))
    joined_gives e s (p ∷ more) h fit w =
        let both = both_true (is_fit p) (list_all is_fit more) fit in
        joined_gives (net.binary op.Concat e (piece_exp p)) (s ++ piece_text p) more
        (λ w. binary_gives S oracle op.Concat e (piece_exp p) w
        ∙ ap (λ z. then z (λ u w. then (value_of S oracle (piece_exp p) w) (on_values (operate_net (Bin op.Concat)) u))) (h w)
        ∙ after_nil (then (value_of S oracle (piece_exp p) w) (on_values (operate_net (Bin op.Concat)) (single (n.Str s))))
        ∙ ap (λ z. then z (on_values (operate_net (Bin op.Concat)) (single (n.Str s)))) (piece_gives p w both.0))
        both.1 w
        ∙ ap (λ t. single_value (n.Str t) w) (append_assoc s (piece_text p) (text_of more))

    pub text_gives : (units : List ℕ) → are_units units ≡ true → (w : Memory) → value_of S oracle (text_exp units) w ≡ single_value (n.Str units) w
    text_gives units h w =
        joined_gives (text (pieces_of units).first) (pieces_of units).first (pieces_of units).more (λ w. refl) (pieces_fit units h) w
        ∙ ap (λ t. single_value (n.Str t) w) (pieces_text units)
