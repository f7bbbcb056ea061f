-- What a first symbol leads to.
use Rattle.std.proofs.Common.{◌≡◌, ℕ, ◌<◌, List, [], ◌∷◌, refl, sym, ap, ◌∙◌, subst, arith, Option, Some, None, false, is_some, Result, Ok, Err, length}
use Rattle.std.proofs.lemmas.List.{length-map}
use Rattle.std.specs.Borrow.{Bor}
use Rattle.vb_tree.specs.declared.expression.BinOp.TheVariants.{Sub}
use Rattle.vb_tree.specs.declared.expression.UnOp.TheVariants as un
use Rattle.vb_tree.specs.declared.token.Token.{Token}
use Rattle.vb_tree.specs.Tree.{Exp}
use Rattle.vb_tree.specs.Expressions.{Symbol, comma, symbols, symbol_of, new_word, type_of_word, not_word, operator, Written, simple, implicit, creation, address, type_test, paren, unary, binary, member, index, Prefix, negation, complement, prefix_of, prefix_symbol, tree_of, depth_of}
use Rattle.vb_exprs.specs.declared.token_class.Class.{Class}
use Rattle.vb_exprs.specs.declared.token_class.Class.TheVariants as c
use Rattle.vb_exprs.specs.declared.fail.ExprFail.{ExprFail}
use Rattle.vb_exprs.specs.declared.fail.ExprFail.TheVariants as fail
use Rattle.vb_exprs.specs.declared.reader.Part.{Part}
use Rattle.vb_exprs.specs.TokenClass.{class_of}
use Rattle.vb_exprs.specs.Reading.{Starts, Gives}
use Rattle.vb_exprs.proofs.Symbols.{operator_symbol, not_symbol, type_of_symbol, new_symbol}

abbrev Answer : Type 0
Answer = Result (Part × Bor (List Token)) ExprFail

-- what a call gives where the symbols begin an expression
abbrev GivesFirst : ℕ → Answer → List Symbol → Type 0
GivesFirst room res now = (t : Written) (rest : List Symbol) → Starts t now rest → Gives room res (tree_of t) rest

moved : (room : ℕ) (res : Answer) (now later : List Symbol) → now ≡ later → GivesFirst room res later → GivesFirst room res now
moved room res now later e g = λ t rest h. g t rest (subst (λ z. Starts t z rest) e h)

first_is : (s u : Symbol) (now after : List Symbol) → now ≡ s ∷ after → s ≡ u → now ≡ u ∷ after
first_is s u now after e f = e ∙ ap (λ x. x ∷ after) f

no_word : (w : Option (List ℕ)) → is_some w ≡ false → w ≡ None
no_word None e = refl
no_word (Some w) e = absurd (cc)

pub minus_arm : (room : ℕ) (res : Answer) (now after : List Symbol) (s : Symbol) (k : Class) → now ≡ s ∷ after → k ≡ class_of s → k ≡ c.Operator Sub false → ((p : Prefix) (t : Written) (rest : List Symbol) → prefix_of p ≡ un.Neg → Starts t (prefix_symbol p ∷ after) rest → Gives room res (tree_of t) rest) → GivesFirst room res now
minus_arm room res now after s k e f g h =
    let o = operator_symbol s Sub false (sym f ∙ g) in
    let is : s ≡ operator Sub None = o.1 ∙ ap (operator Sub) (no_word o.0 o.2) in
    moved room res now (operator Sub None ∷ after) (first_is s (operator Sub None) now after e is) (λ t rest x. h negation t rest refl x)

pub not_arm : (room : ℕ) (res : Answer) (now after : List Symbol) (s : Symbol) (k : Class) → now ≡ s ∷ after → k ≡ class_of s → k ≡ c.Not → ((p : Prefix) (t : Written) (rest : List Symbol) → prefix_of p ≡ un.Not → Starts t (prefix_symbol p ∷ after) rest → Gives room res (tree_of t) rest) → GivesFirst room res now
not_arm room res now after s k e f g h =
    let o = not_symbol s (sym f ∙ g) in
    moved room res now (not_word o.0 ∷ after) (first_is s (not_word o.0) now after e o.1) (λ t rest x. h (complement o.0) t rest refl x)

pub type_arm : (room : ℕ) (res : Answer) (now after : List Symbol) (s : Symbol) (k : Class) → now ≡ s ∷ after → k ≡ class_of s → k ≡ c.TypeOf → ((w : List ℕ) → GivesFirst room res (type_of_word w ∷ after)) → GivesFirst room res now
type_arm room res now after s k e f g h =
    let o = type_of_symbol s (sym f ∙ g) in
    moved room res now (type_of_word o.0 ∷ after) (first_is s (type_of_word o.0) now after e o.1) (h o.0)

-- what is not deep is never too deep
pub gives_flat : (room : ℕ) (res : Answer) (t : Exp) (rest : List Symbol) → depth_of t ≡ 0 → Gives 0 res t rest → Gives room res t rest
gives_flat room (Ok read) t rest d g = g
gives_flat room (Err fail.NotExpr) t rest d g = g
gives_flat room (Err fail.TooDeep) t rest d g = absurd (omega arith)
gives_flat room (Err fail.Mem) t rest d g = tt

pub new_arm : (room : ℕ) (res : Answer) (now after : List Symbol) (s : Symbol) (k : Class) → now ≡ s ∷ after → k ≡ class_of s → k ≡ c.New → ((w : List ℕ) → GivesFirst 0 res (new_word w ∷ after)) → GivesFirst room res now
new_arm room res now after s k e f g h =
    let o = new_symbol s (sym f ∙ g) in
    moved room res now (new_word o.0 ∷ after) (first_is s (new_word o.0) now after e o.1) (λ t rest x. flat o.0 t rest x (h o.0 t rest x))
  where
    flat : (w : List ℕ) (t : Written) (rest : List Symbol) → Starts t (new_word w ∷ after) rest → Gives 0 res (tree_of t) rest → Gives room res (tree_of t) rest
    flat w (creation v ty) rest x y = gives_flat room res (tree_of (creation v ty)) rest refl y
    flat w (simple a) rest x y = absurd (cc (x.spelled))
    flat w (implicit b n) rest x y = absurd (cc (x.spelled))
    flat w (address v n) rest x y = absurd (cc (x.spelled))
    flat w (type_test v o is ty) rest x y = absurd (cc (x.spelled))
    flat w (paren o) rest x y = absurd (cc (x.spelled))
    flat w (unary negation o) rest x y = absurd (cc (x.spelled))
    flat w (unary (complement v) o) rest x y = absurd (cc (x.spelled))
    flat w (binary op v l r) rest x y = absurd (x.first)
    flat w (member o b n) rest x y = absurd (x.first)
    flat w (index o args) rest x y = absurd (x.first)

pub tail_is : (s u : Symbol) (xs ys : List Symbol) → s ∷ xs ≡ u ∷ ys → xs ≡ ys
tail_is s u xs ys e = cc

pub not_empty : (s : Symbol) (xs : List Symbol) → s ∷ xs ≡ [] → ⊥
not_empty s xs e = absurd (cc)

-- what follows a comma is shorter
pub comma_shorter : (ts after : List Token) → symbols ts ≡ comma ∷ symbols after → length after < length ts
comma_shorter ts after e = omega (arith, ap length e, length-map ts (λ t. symbol_of t.kind), length-map after (λ t. symbol_of t.kind))
