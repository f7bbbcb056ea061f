-- An expression before a word is the longest at the front.
use Rattle.std.proofs.Common.{◌≡◌, ℕ, ◌<◌, List, ◌∷◌, ◌++◌, refl, sym, ap, ◌∙◌, subst, arith, length, codes, take, drop, get_or, Bool, true, false, ◌&&◌, nat_eq}
use Rattle.std.proofs.lemmas.List.{take_at, drop_at, length-append, take-append-drop}
use Rattle.std.specs.Cmp.Lexicographic.{pointwise, same_text}
use Rattle.up_base.specs.Names.{lower_case}
use Rattle.vb_tree.specs.declared.token.Suffix.{Suffix}
use Rattle.vb_tree.specs.declared.token.Suffix.TheVariants.{Absent}
use Rattle.vb_tree.specs.declared.token.Token.{Token}
use Rattle.vb_tree.specs.declared.token.TokenKind.{TokenKind}
use Rattle.vb_tree.specs.declared.token.TokenKind.TheVariants as kind
use Rattle.vb_tree.specs.Tree.{Exp}
use Rattle.vb_tree.specs.Expressions.{IsExpression, IsStop, Begins, BeginsLongest, symbol_of, word_symbol, keyword_of}
use Rattle.vb_exprs.specs.Answer.{IsNotExpr}
use Rattle.vb_exprs.proofs.Fronts.{longest_before}
use Rattle.form_parts.specs.Words.{is_key, is_key_kind, is_absent}
use Rattle.form_parts.specs.Parts.{IsJoined, IsJoint}
use Rattle.form_parts.proofs.Chaining.{take_whole}

pub front_of : (tokens : List Token) (t : Exp) → IsExpression tokens t → Begins tokens t (length tokens)
front_of tokens t h = record { within = omega arith; expression = subst (λ x. IsExpression x t) (sym (take_whole tokens (length tokens) (omega arith))) h }

pub whole_of : (tokens : List Token) (t : Exp) (n : ℕ) → Begins tokens t n → n ≡ length tokens → IsExpression tokens t
whole_of tokens t n b e = subst (λ x. IsExpression x t) (take_whole tokens n (omega arith)) b.expression

pub not_whole : (tokens : List Token) (t : Exp) (n : ℕ) → BeginsLongest tokens t n → (n ≡ length tokens → ⊥) → (u : Exp) → IsExpression tokens u → ⊥
not_whole tokens t n b other u h = other (let k = b.longest u (length tokens) (front_of tokens u h) in omega (arith, k, b.begins.within))

both_hold : (a b : Bool) → (a && b) ≡ true → (a ≡ true) × (b ≡ true)
both_hold true b h = (refl, h)
both_hold false b h = absurd (cc)

absent_is : (s : Suffix) → is_absent s ≡ true → s ≡ Absent
absent_is Absent h = refl
absent_is _ h = absurd (cc)

-- a keyword that no expression goes on with
pub key_stop : (w : List ℕ) (k : TokenKind) → IsJoint w → is_key_kind w k ≡ true → IsStop (symbol_of k)
key_stop w (kind.Word n s) joint h =
    let both = both_hold (is_absent s) (pointwise nat_eq (lower_case n) w) h in
    let absent = absent_is s both.0 in
    let same : lower_case n ≡ w = same_text (lower_case n) w (sym both.1) in
    subst (λ x. IsStop (word_symbol (keyword_of (lower_case n)) n x)) (sym absent) (subst (λ x. IsStop (word_symbol (keyword_of x) n Absent)) (sym same) (joint n))
key_stop w (kind.Bracketed n s) joint h = absurd (cc)
key_stop w (kind.Lit l) joint h = absurd (cc)
key_stop w (kind.Sign s) joint h = absurd (cc)

-- where an expression stands before the word, the longest one at the front is this one
pub joined_length : (w : List ℕ) (tokens before after : List Token) (t : Exp) (n : ℕ) → IsJoint w → BeginsLongest tokens t n → (j : IsJoined w tokens before after) → n ≡ length before
joined_length w tokens before after t n joint b j =
    let stop = key_stop w j.joint.kind joint j.key in
    let there = longest_before before j.tree j.joint after j.expression stop in
    let here = subst (λ x. BeginsLongest x j.tree (length before)) (sym j.split) there in
    let up = b.longest j.tree (length before) here.begins in
    let down = here.longest t n b.begins in
    omega (arith, up, down)

pub one_joined : (w : List ℕ) (tokens a b c d : List Token) → IsJoint w → IsJoined w tokens a b → IsJoined w tokens c d → (a ≡ c) × (b ≡ d)
one_joined w tokens a b c d joint j k =
    let stop = key_stop w j.joint.kind joint j.key in
    let there = subst (λ x. BeginsLongest x j.tree (length a)) (sym j.split) (longest_before a j.tree j.joint b j.expression stop) in
    let same : length a ≡ length c = joined_length w tokens c d j.tree (length a) joint there k in
    let parts : a ++ j.joint ∷ b ≡ c ++ k.joint ∷ d = sym j.split ∙ k.split in
    let front : a ≡ c = sym (take_at a (j.joint ∷ b) (length a) refl) ∙ ap (take (length a)) parts ∙ take_at c (k.joint ∷ d) (length a) (sym same) in
    let back : j.joint ∷ b ≡ k.joint ∷ d = sym (drop_at a (j.joint ∷ b) (length a) refl) ∙ ap (drop (length a)) parts ∙ drop_at c (k.joint ∷ d) (length a) (sym same) in
    (front, cc)

-- two such words stand behind the same expression
pub same_front : (w v : List ℕ) (tokens a b c d : List Token) → IsJoint w → IsJoint v → IsJoined w tokens a b → IsJoined v tokens c d → a ≡ c
same_front w v tokens a b c d joint other j k =
    let stop = key_stop w j.joint.kind joint j.key in
    let there = subst (λ x. BeginsLongest x j.tree (length a)) (sym j.split) (longest_before a j.tree j.joint b j.expression stop) in
    let same : length a ≡ length c = joined_length v tokens c d j.tree (length a) other there k in
    let parts : a ++ j.joint ∷ b ≡ c ++ k.joint ∷ d = sym j.split ∙ k.split in
    sym (take_at a (j.joint ∷ b) (length a) refl) ∙ ap (take (length a)) parts ∙ take_at c (k.joint ∷ d) (length a) (sym same)

-- what stands behind the longest expression
pub joined_rest : (w : List ℕ) (tokens before after : List Token) (t : Exp) (n : ℕ) → IsJoint w → BeginsLongest tokens t n → (j : IsJoined w tokens before after) → (take n tokens ≡ before) × (drop n tokens ≡ j.joint ∷ after)
joined_rest w tokens before after t n joint b j =
    let same : n ≡ length before = joined_length w tokens before after t n joint b j in
    (ap (take n) j.split ∙ take_at before (j.joint ∷ after) n (sym same), ap (drop n) j.split ∙ drop_at before (j.joint ∷ after) n (sym same))

pub joined_here : (w : List ℕ) (tokens after : List Token) (t : Exp) (n : ℕ) (s : Token) → BeginsLongest tokens t n → drop n tokens ≡ s ∷ after → is_key w s ≡ true → IsJoined w tokens (take n tokens) after
joined_here w tokens after t n s b e key = record {
  joint = s;
  key = key;
  split = sym (take-append-drop n tokens) ∙ ap (λ x. take n tokens ++ x) e;
  tree = t;
  expression = b.begins.expression;
}

pub no_joined : (w : List ℕ) (tokens before after : List Token) → IsJoint w → IsNotExpr tokens → IsJoined w tokens before after → ⊥
no_joined w tokens before after joint none j =
    let there = longest_before before j.tree j.joint after j.expression (key_stop w j.joint.kind joint j.key) in
    none j.tree (length before) (subst (λ x. Begins x j.tree (length before)) (sym j.split) there.begins)

pub nothing_behind : (w : List ℕ) (tokens before after rest : List Token) (t : Exp) (n : ℕ) → IsJoint w → BeginsLongest tokens t n → rest ≡ drop n tokens → length rest < 1 → IsJoined w tokens before after → ⊥
nothing_behind w tokens before after rest t n joint b e low j =
    let r = joined_rest w tokens before after t n joint b j in
    absurd (omega (arith, ap length (e ∙ r.1)))

pub other_behind : (w : List ℕ) (tokens before after rest : List Token) (t : Exp) (n : ℕ) (s : Token) → IsJoint w → BeginsLongest tokens t n → rest ≡ drop n tokens → s ≡ get_or rest 0 s → is_key w s ≡ false → IsJoined w tokens before after → ⊥
other_behind w tokens before after rest t n s joint b e at other j =
    let r = joined_rest w tokens before after t n joint b j in
    let same : s ≡ j.joint = at ∙ ap (λ x. get_or x 0 s) (e ∙ r.1) in
    absurd (cc (other, j.key, ap (is_key w) same))

-- the tokens before such a word are no whole expression with it
pub joined_not_whole : (w : List ℕ) (tokens before after : List Token) → IsJoint w → IsJoined w tokens before after → (u : Exp) → IsExpression tokens u → ⊥
joined_not_whole w tokens before after joint j u h =
    let stop = key_stop w j.joint.kind joint j.key in
    let there = subst (λ x. BeginsLongest x j.tree (length before)) (sym j.split) (longest_before before j.tree j.joint after j.expression stop) in
    let up = there.longest u (length tokens) (front_of tokens u h) in
    absurd (omega (arith, up, ap length j.split, length-append before (j.joint ∷ after)))

pub to_joint : IsJoint (codes "to")
unfolding keyword_of
to_joint = λ n. tt

pub step_joint : IsJoint (codes "step")
unfolding keyword_of
step_joint = λ n. tt

pub goto_joint : IsJoint (codes "goto")
unfolding keyword_of
goto_joint = λ n. tt

pub gosub_joint : IsJoint (codes "gosub")
unfolding keyword_of
gosub_joint = λ n. tt
