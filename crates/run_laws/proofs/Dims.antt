-- What the declarations make that are written for scalar variables and constants.
use Rattle.std.proofs.Common.{◌≡◌, refl, sym, ap, ◌∙◌, ℕ, Bool, true, false, cond, ◌&&◌, true≢false, not, Option, Some, None, List, []}
use Rattle.up_base.proofs.Tests.{both_true, neither}
use Rattle.vb_tree.specs.BoundTree as types
use Rattle.vb_tree.specs.BoundTree.{Ty}
use Rattle.vb_tree.specs.declared.value.Value6.{Value6}
use Rattle.bound_tree.specs.Tree.{Constant, Declarations, Variable}
use Rattle.net_tree.specs.Tree as net_tree
use Rattle.net_tree.specs.Types as words
use Rattle.net_tree.specs.Types.{TypeName}
use Rattle.run_base.specs.Outcomes.{gives, some_of, then}
use Rattle.run_base.specs.Positions.{Root, whole}
use Rattle.net_run.specs.Members.{Code}
use Rattle.net_run.specs.Names.{declared_constant}
use Rattle.net_run.specs.Program.{dim_made, made_once, static_at, static_root}
use Rattle.net_run.specs.Shapes as shape
use Rattle.net_run.specs.Store as net
use Rattle.net_run.specs.Structures.{initial_value}
use Rattle.written_trees.specs.Facts.{Facts, is_flagged_variable}
use Rattle.written_trees.specs.Names.{Scope}
use Rattle.written_trees.specs.Prologues.{constant_dim, constant_dim_by, extents, initial, is_static, object_variable, sound_value, typed_variable, variable_dim, written_constant, written_variable}
use Rattle.written_trees.specs.Types.{type_with}
use Rattle.row_laws.proofs.Composing.{then_assoc}
use Rattle.agreeing_laws.proofs.Outputs.{after_nothing}
use Rattle.run_matches.specs.CoveredVariables.{covers_owner, covers_type}
use Rattle.run_matches.specs.Likeness.{scalar_word}
use Rattle.run_matches.specs.Sites.{own_constant, own_variable}
use Rattle.run_matches.specs.Upgrades.{Upgrade, is_unknown, type_of}
use Rattle.run_statements.specs.Arrays.{array_initial, array_shape}
use Rattle.run_statements.specs.Frames.{IsArray, IsReadable}
use Rattle.run_statements.specs.Kept.{IsConstantDim, own_dim}

-- ---- types

-- a type is written by a word, and its variables begin with what the word says
pub record WordOf (ty : Ty) : Type 0 where
  pub word : TypeName
  pub is_word : scalar_word ty ≡ Some word
  pub written : (D : Declarations) (file : ℕ) (qualified : Bool) (rank : ℕ) → type_with D file qualified rank ty ≡ word
  pub plain : (S : Scope) (v : ℕ) (x : Variable) → initial S v x ty ≡ None
  pub shaped : (N : net_tree.Project) (home : ℕ) → shape.shape_of N home word ≡ shape.scalar word
  pub listed : (N : net_tree.Project) (home rank : ℕ) → shape.shape_of N home (words.array_of word rank) ≡ shape.array (shape.scalar word) rank

pub word_of : (ty : Ty) → covers_type ty ≡ true → WordOf ty
word_of types.boolean h =
    record { word = words.boolean; is_word = refl; written = λ D f q r. refl; plain = λ S v x. refl; shaped = λ N home. refl; listed = λ N home rank. refl }
word_of types.byte h =
    record { word = words.byte; is_word = refl; written = λ D f q r. refl; plain = λ S v x. refl; shaped = λ N home. refl; listed = λ N home rank. refl }
word_of types.integer h =
    record { word = words.short; is_word = refl; written = λ D f q r. refl; plain = λ S v x. refl; shaped = λ N home. refl; listed = λ N home rank. refl }
word_of types.long h =
    record { word = words.integer; is_word = refl; written = λ D f q r. refl; plain = λ S v x. refl; shaped = λ N home. refl; listed = λ N home rank. refl }
word_of types.currency h =
    record { word = words.decimal; is_word = refl; written = λ D f q r. refl; plain = λ S v x. refl; shaped = λ N home. refl; listed = λ N home rank. refl }
word_of types.str h =
    record { word = words.str; is_word = refl; written = λ D f q r. refl; plain = λ S v x. refl; shaped = λ N home. refl; listed = λ N home rank. refl }
word_of _ h = absurd (true≢false (sym h))

-- ---- variables

abbrev pub plain_variable : List ℕ → TypeName → net_tree.Variable
plain_variable name t = record { name = name; ty = t; value = None }

static_dim_by : (b c : Bool) (x y : net_tree.Variable) → b ≡ true → c ≡ false
    → cond b (net_tree.static_local (cond c x y)) (net_tree.local (cond c x y)) ≡ net_tree.static_local y
static_dim_by true true x y d e = absurd (true≢false e)
static_dim_by true false x y d e = refl
static_dim_by false c x y d e = absurd (true≢false (sym d))

dim_by : (b c : Bool) (x y : net_tree.Variable) → b ≡ false → c ≡ false
    → cond b (net_tree.static_local (cond c x y)) (net_tree.local (cond c x y)) ≡ net_tree.local y
dim_by true c x y d e = absurd (true≢false d)
dim_by false true x y d e = absurd (true≢false e)
dim_by false false x y d e = refl

-- The declaration of a variable makes one of its word, under its name.
pub record ScalarMade (U : Upgrade) (S : Scope) (c : Code) (v : ℕ) (r : IsReadable U v) : Type 0 where
  pub word : TypeName
  pub is_word : scalar_word r.variable.ty ≡ Some word
  pub is_made :
      (me : Option ℕ) (i : ℕ) (w : net.Memory)
      → dim_made U.written c me i (own_dim S (own_variable v r.variable)) w
      ≡ then (net.made_with (shape.scalar word) (shape.default_of (shape.scalar word)) w) (λ b t. gives [] (r.variable.name, b) t)

pub variable_made : (U : Upgrade) (S : Scope) → S.facts ≡ U.facts → (c : Code) (v : ℕ) (r : IsReadable U v) → is_static r.variable.owner ≡ false
    → ScalarMade U S c v r
variable_made U S facts c v r local =
    let x : Variable = r.variable in
    let a = both_true (covers_owner x.owner) (covers_type x.ty && not x.auto) r.covers in
    let m : WordOf x.ty = word_of x.ty (both_true (covers_type x.ty) (not x.auto) a.1).0 in
    let unflagged : is_flagged_variable S.facts v ≡ false =
    ap (λ F. is_flagged_variable F v) facts ∙ (neither (is_flagged_variable U.facts v) (is_unknown (type_of U v)) r.sound).0 in
    let typed : typed_variable S v x ≡ plain_variable x.name m.word =
    λ i. record { name = x.name; ty = m.written S.declarations S.file x.qualified (S.facts.rank v) i; value = m.plain S v x i } in
    let dim : variable_dim S (v, x) ≡ net_tree.local (plain_variable x.name m.word) =
    dim_by (is_static x.owner) (is_flagged_variable S.facts v) (object_variable x.name) (typed_variable S v x) local unflagged
    ∙ ap (λ y. net_tree.local y) typed in
    let at = λ (d : Code). shape.shape_of U.written d.home m.word in
    record {
      word = m.word;
      is_word = m.is_word;
      is_made = λ me i w.
          ap (λ d. dim_made U.written c me i d w) dim
          ∙ after_nothing (then (net.made_with (at c) (shape.default_of (at c)) w) (λ b t. gives [] (x.name, b) t))
          ∙ ap (λ s. then (net.made_with s (shape.default_of s) w) (λ b t. gives [] (x.name, b) t)) (m.shaped U.written c.home);
    }

-- ---- Statics

-- The declaration of a Static makes one of its word at its root, where none is there.
pub record StaticMade (U : Upgrade) (S : Scope) (c : Code) (v : ℕ) (r : IsReadable U v) : Type 0 where
  pub word : TypeName
  pub is_word : scalar_word r.variable.ty ≡ Some word
  pub made : net_tree.Variable
  pub plain : made.value ≡ None
  pub shaped : shape.shape_of U.written c.home made.ty ≡ shape.scalar word
  pub is_made :
      (me : Option ℕ) (i : ℕ) (at : Root) → static_root U.written c me i ≡ Some at → (w : net.Memory)
      → dim_made U.written c me i (own_dim S (own_variable v r.variable)) w
      ≡ then (made_once U.written c.home at made (w.cell (whole at)) w) (λ u t. gives [] (r.variable.name, net.root (shape.scalar word) (whole at)) t)

pub static_made : (U : Upgrade) (S : Scope) → S.facts ≡ U.facts → (c : Code) (v : ℕ) (r : IsReadable U v) → is_static r.variable.owner ≡ true
    → StaticMade U S c v r
static_made U S facts c v r static =
    let x : Variable = r.variable in
    let a = both_true (covers_owner x.owner) (covers_type x.ty && not x.auto) r.covers in
    let m : WordOf x.ty = word_of x.ty (both_true (covers_type x.ty) (not x.auto) a.1).0 in
    let unflagged : is_flagged_variable S.facts v ≡ false =
    ap (λ F. is_flagged_variable F v) facts ∙ (neither (is_flagged_variable U.facts v) (is_unknown (type_of U v)) r.sound).0 in
    let typed : typed_variable S v x ≡ plain_variable x.name m.word =
    λ i. record { name = x.name; ty = m.written S.declarations S.file x.qualified (S.facts.rank v) i; value = m.plain S v x i } in
    let dim : variable_dim S (v, x) ≡ net_tree.static_local (plain_variable x.name m.word) =
    static_dim_by (is_static x.owner) (is_flagged_variable S.facts v) (object_variable x.name) (typed_variable S v x) static unflagged
    ∙ ap (λ y. net_tree.static_local y) typed in
    let d : net_tree.Variable = plain_variable x.name m.word in
    record {
      word = m.word;
      is_word = m.is_word;
      made = d;
      plain = refl;
      shaped = m.shaped U.written c.home;
      is_made = λ me i at stands w.
          ap (λ e. dim_made U.written c me i e w) dim ∙ ap (λ o. some_of o (static_at U.written c.home d) w) stands
          ∙ ap (λ s. then (made_once U.written c.home at d (w.cell (whole at)) w) (λ u t. gives [] (x.name, net.root s (whole at)) t))
          (m.shaped U.written c.home);
    }

-- ---- arrays

abbrev array_variable : List ℕ → TypeName → Option net_tree.Exp → net_tree.Variable
array_variable name t value = record { name = name; ty = t; value = value }

-- what is written for the declaration of an array
pub record ArrayWritten (U : Upgrade) (S : Scope) (v : ℕ) (element : Ty) (r : IsArray U v element) : Type 0 where
  pub word : TypeName
  pub is_word : scalar_word element ≡ Some word
  pub shaped : (home : ℕ) → shape.shape_of U.written home word ≡ shape.scalar word
  pub listed : (home : ℕ) → shape.shape_of U.written home (words.array_of word (U.facts.rank v)) ≡ array_shape U v word
  pub is_written :
      written_variable S (v, r.known.variable)
      ≡ array_variable r.known.variable.name (words.array_of word (U.facts.rank v)) (Some (array_initial U v word r.known.variable.bounds))

pub array_written : (U : Upgrade) (S : Scope) → S.facts ≡ U.facts → (v : ℕ) (element : Ty) (r : IsArray U v element) → ArrayWritten U S v element r
array_written U S facts v element r =
    let x : Variable = r.known.variable in
    let m : WordOf element = word_of element r.covers in
    let file = S.file in
    let unflagged : is_flagged_variable S.facts v ≡ false =
    ap (λ F. is_flagged_variable F v) facts ∙ (neither (is_flagged_variable U.facts v) (is_unknown (type_of U v)) r.known.sound).0 in
    let by_type : typed_variable S v x
    ≡ array_variable x.name (words.array_of (type_with S.declarations file x.qualified (S.facts.rank v) element) (S.facts.rank v))
    (Some (net_tree.new_array (type_with S.declarations file x.qualified 1 element) (extents (S.facts.rank v) x.bounds))) =
    ap (λ ty. array_variable x.name (type_with S.declarations file x.qualified (S.facts.rank v) ty) (initial S v x ty)) r.is_array in
    let by_facts : array_variable x.name (words.array_of (type_with S.declarations file x.qualified (S.facts.rank v) element) (S.facts.rank v))
    (Some (net_tree.new_array (type_with S.declarations file x.qualified 1 element) (extents (S.facts.rank v) x.bounds)))
    ≡ array_variable x.name (words.array_of (type_with S.declarations file x.qualified (U.facts.rank v) element) (U.facts.rank v))
    (Some (net_tree.new_array (type_with S.declarations file x.qualified 1 element) (extents (U.facts.rank v) x.bounds))) =
    ap (λ (F : Facts). array_variable x.name (words.array_of (type_with S.declarations file x.qualified (F.rank v) element) (F.rank v))
    (Some (net_tree.new_array (type_with S.declarations file x.qualified 1 element) (extents (F.rank v) x.bounds)))) facts in
    let by_word : array_variable x.name (words.array_of (type_with S.declarations file x.qualified (U.facts.rank v) element) (U.facts.rank v))
    (Some (net_tree.new_array (type_with S.declarations file x.qualified 1 element) (extents (U.facts.rank v) x.bounds)))
    ≡ array_variable x.name (words.array_of m.word (U.facts.rank v)) (Some (array_initial U v m.word x.bounds)) =
    ap (λ t. array_variable x.name (words.array_of t (U.facts.rank v))
    (Some (net_tree.new_array (type_with S.declarations file x.qualified 1 element) (extents (U.facts.rank v) x.bounds))))
    (m.written S.declarations file x.qualified (U.facts.rank v))
    ∙ ap (λ t. array_variable x.name (words.array_of m.word (U.facts.rank v)) (Some (net_tree.new_array t (extents (U.facts.rank v) x.bounds))))
    (m.written S.declarations file x.qualified 1) in
    record {
      word = m.word;
      is_word = m.is_word;
      shaped = m.shaped U.written;
      listed = λ home. m.listed U.written home (U.facts.rank v);
      is_written =
          ap (λ b. cond b (object_variable x.name) (typed_variable S v x)) unflagged ∙ by_type ∙ by_facts ∙ by_word;
    }

-- The declaration of an array makes one of its rank, under its name.
pub record ArrayDim (U : Upgrade) (S : Scope) (c : Code) (v : ℕ) (element : Ty) (r : IsArray U v element) : Type 0 where
  pub word : TypeName
  pub is_word : scalar_word element ≡ Some word
  pub shaped : shape.shape_of U.written c.home word ≡ shape.scalar word
  pub is_made :
      (me : Option ℕ) (i : ℕ) (w : net.Memory)
      → dim_made U.written c me i (own_dim S (own_variable v r.known.variable)) w
      ≡ then
      (then (initial_value U.written c.home (array_shape U v word) (Some (array_initial U v word r.known.variable.bounds)) w)
      (λ x w. net.made_with (array_shape U v word) x w))
      (λ b t. gives [] (r.known.variable.name, b) t)

pub array_made : (U : Upgrade) (S : Scope) → S.facts ≡ U.facts → (c : Code) (v : ℕ) (element : Ty) (r : IsArray U v element)
    → is_static r.known.variable.owner ≡ false → ArrayDim U S c v element r
array_made U S facts c v element r local =
    let x : Variable = r.known.variable in
    let m : ArrayWritten U S v element r = array_written U S facts v element r in
    let e : net_tree.Exp = array_initial U v m.word x.bounds in
    let d : net_tree.Variable = array_variable x.name (words.array_of m.word (U.facts.rank v)) (Some e) in
    let dim : variable_dim S (v, x) ≡ net_tree.local d =
    ap (λ b. cond b (net_tree.static_local (written_variable S (v, x))) (net_tree.local (written_variable S (v, x)))) local
    ∙ ap (λ y. net_tree.local y) m.is_written in
    record {
      word = m.word;
      is_word = m.is_word;
      shaped = m.shaped c.home;
      is_made = λ me i w.
          ap (λ d. dim_made U.written c me i d w) dim
          ∙ ap (λ s. then (initial_value U.written c.home s (Some e) w) (λ y w. then (net.made_with s y w) (λ b t. gives [] (x.name, b) t))) (m.listed c.home)
          ∙ sym (then_assoc (initial_value U.written c.home (array_shape U v m.word) (Some e) w) (λ y w. net.made_with (array_shape U v m.word) y w)
          (λ b t. gives [] (x.name, b) t));
    }

-- The declaration of a Static makes one at its root, where none is there.
pub record ArrayStatic (U : Upgrade) (S : Scope) (c : Code) (v : ℕ) (element : Ty) (r : IsArray U v element) : Type 0 where
  pub word : TypeName
  pub is_word : scalar_word element ≡ Some word
  pub element_shaped : shape.shape_of U.written c.home word ≡ shape.scalar word
  pub made : net_tree.Variable
  pub begins : made.value ≡ Some (array_initial U v word r.known.variable.bounds)
  pub shaped : shape.shape_of U.written c.home made.ty ≡ array_shape U v word
  pub is_made :
      (me : Option ℕ) (i : ℕ) (at : Root) → static_root U.written c me i ≡ Some at → (w : net.Memory)
      → dim_made U.written c me i (own_dim S (own_variable v r.known.variable)) w
      ≡ then (made_once U.written c.home at made (w.cell (whole at)) w)
      (λ u t. gives [] (r.known.variable.name, net.root (array_shape U v word) (whole at)) t)

pub array_static_made : (U : Upgrade) (S : Scope) → S.facts ≡ U.facts → (c : Code) (v : ℕ) (element : Ty) (r : IsArray U v element)
    → is_static r.known.variable.owner ≡ true → ArrayStatic U S c v element r
array_static_made U S facts c v element r static =
    let x : Variable = r.known.variable in
    let m : ArrayWritten U S v element r = array_written U S facts v element r in
    let e : net_tree.Exp = array_initial U v m.word x.bounds in
    let d : net_tree.Variable = array_variable x.name (words.array_of m.word (U.facts.rank v)) (Some e) in
    let dim : variable_dim S (v, x) ≡ net_tree.static_local d =
    ap (λ b. cond b (net_tree.static_local (written_variable S (v, x))) (net_tree.local (written_variable S (v, x)))) static
    ∙ ap (λ y. net_tree.static_local y) m.is_written in
    record {
      word = m.word;
      is_word = m.is_word;
      element_shaped = m.shaped c.home;
      made = d;
      begins = refl;
      shaped = m.listed c.home;
      is_made = λ me i at stands w.
          ap (λ e. dim_made U.written c me i e w) dim ∙ ap (λ o. some_of o (static_at U.written c.home d) w) stands
          ∙ ap (λ s. then (made_once U.written c.home at d (w.cell (whole at)) w) (λ u t. gives [] (x.name, net.root s (whole at)) t)) (m.listed c.home);
    }

-- ---- constants

-- the declaration of a constant makes nothing
pub record ConstantMade (U : Upgrade) (S : Scope) (c : Code) (d : ℕ) (x : Constant) : Type 0 where
  pub address : net.Address
  pub is_made : (me : Option ℕ) (i : ℕ) (w : net.Memory) → dim_made U.written c me i (own_dim S (own_constant d x)) w ≡ gives [] (x.name, address) w

pub constant_made : (U : Upgrade) (S : Scope) (c : Code) (d : ℕ) (x : Constant) → IsConstantDim (constant_dim S (d, x)) → ConstantMade U S c d x
constant_made U S c d x h = by (sound_value S.facts (d, x)) refl h
  where
    by : (o : Option Value6) → sound_value S.facts (d, x) ≡ o → IsConstantDim (constant_dim_by S x o) → ConstantMade U S c d x
    by None e k = absurd k
    by (Some z) e k = record {
      address = declared_constant U.written c.home (written_constant S x z);
      is_made = λ me i w. ap (λ o. dim_made U.written c me i (constant_dim_by S x o) w) e;
    }
