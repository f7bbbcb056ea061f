-- A line has at most one form: each part has at most one tree, and the forms are told apart by the first words.
use Rattle.std.proofs.Common.{◌≡◌, ℕ, List, [], ◌∷◌, refl, sym, ap, ◌∙◌, subst, Bool, Option, Some, None, codes, false}
use Rattle.vb_tree.specs.declared.declared.ProcKind.{ProcKind}
use Rattle.vb_tree.specs.declared.form_parts.LetterRange.{LetterRange}
use Rattle.vb_tree.specs.declared.form_parts.Passing.{Passing}
use Rattle.vb_tree.specs.declared.form_parts.VarWord.{VarWord}
use Rattle.vb_tree.specs.declared.form_parts.Visibility.{Visibility}
use Rattle.vb_tree.specs.declared.token.Suffix.{Suffix}
use Rattle.vb_tree.specs.declared.token.Token.{Token}
use Rattle.vb_tree.specs.Tree.{Exp, Bounds, TypeName, named, fixed_string, Declarator, Constant, Param, Signature, ResultType, Form, field, enum_member, constants}
use Rattle.vb_tree.specs.Expressions.{IsExpression}
use Rattle.vb_exprs.proofs.OneForm.{one_expression}
use Rattle.form_parts.specs.declared.cuts.Separator.TheVariants.{Comma, Equal}
use Rattle.form_parts.specs.Cuts.{pieces, parted, Each}
use Rattle.form_parts.specs.Parts.{IsJoined, IsBounds, IsBoundsFrom, IsStringHead, IsTypeName, named_type, with_library, behind_dot, is_dot, name_alone, name_of_token, word_of}
use Rattle.form_parts.proofs.Joining.{one_joined, joined_not_whole, to_joint}
use Rattle.declaration_forms.specs.declared.starts.Spot.{Spot}
use Rattle.declaration_forms.specs.declared.starts.Start.{Start}
use Rattle.declaration_forms.specs.declared.starts.Start.TheVariants as start
use Rattle.declaration_forms.specs.declared.heads.Words.{Words}
use Rattle.declaration_forms.specs.DeclarationForms.{IsDeclaration, Fits, FitsStart, IsRange, DefLine, VariablesLine, ConstantsLine, IsEventDeclarator, NameLine, HeadOf, HeadLine, head_form}
use Rattle.declaration_forms.specs.Heads.{ParamOf, IsParam, AreParams, SignatureOf, IsResult, IsResultWith, IsResultCut, result_cut, begins_fixed, words_of, past_words}
use Rattle.declaration_forms.specs.Outlines.{Outline, outline_of, field_outline}
use Rattle.declaration_forms.specs.Starts.{Begun, start_of}
use Rattle.declaration_forms.specs.Variables.{DeclaratorOf, IsDeclarator, ConstantOf, IsConstant, IsEqualTo, FieldOf, MemberOf, Outlines, before_equal, behind_equal}
use Rattle.declaration_forms.specs.Wholes.{IsOptional, IsGiven, AreItems}
use Rattle.declaration_forms.specs.Words.{past_word}

-- Parts.

no_library : (n : Option (List ℕ)) → with_library n None ≡ None
no_library None = refl
no_library (Some n) = refl

not_named : (word star : Token) (rest : List Token) → is_dot star.kind ≡ false → named_type (word ∷ star ∷ rest) ≡ None
not_named word star [] h = refl
not_named word star (b ∷ []) h = ap (λ x. with_library (name_alone (name_of_token word)) (behind_dot x (word_of b.kind))) h ∙ no_library (name_alone (name_of_token word))
not_named word star (b ∷ e ∷ more) h = refl

string_not_named : (tokens rest : List Token) (n : List ℕ) → IsStringHead tokens rest → named_type tokens ≡ Some n → ⊥
string_not_named tokens rest n head h =
    let none : named_type tokens ≡ None = ap named_type head.split ∙ not_named head.word head.star rest (ap is_dot head.sign) in
    cc (h, none)

same_rest : (a b c d : Token) (r s : List Token) → ◌≡◌ {A = List Token} (a ∷ b ∷ r) (c ∷ d ∷ s) → r ≡ s
same_rest a b c d r s h = cc

one_type : (tokens : List Token) (a b : TypeName) → IsTypeName tokens a → IsTypeName tokens b → a ≡ b
one_type tokens (named m) (named n) h k = let e : ◌≡◌ {A = Option (List ℕ)} (Some m) (Some n) = sym h ∙ k in let f : m ≡ n = cc in ap named f
one_type tokens (named m) (fixed_string u) h k = absurd (string_not_named tokens k.0 m k.1 h)
one_type tokens (fixed_string t) (named n) h k = absurd (string_not_named tokens h.0 n h.1 k)
one_type tokens (fixed_string t) (fixed_string u) h k =
    let same = same_rest h.1.word h.1.star k.1.word k.1.star h.0 k.0 (sym h.1.split ∙ k.1.split) in
    ap fixed_string (one_expression k.0 t u (subst (λ z. IsExpression z t) same h.2) k.2)

abbrev bounds_with : Option Exp → Exp → Bounds
bounds_with l u = record { lower = l; upper = u }

bounds_from : (tokens : List Token) (l m : Option Exp) (u v : Exp) → IsBoundsFrom tokens l u → IsBoundsFrom tokens m v → bounds_with l u ≡ bounds_with m v
bounds_from tokens None None u v h k = ap (bounds_with None) (one_expression tokens u v h k)
bounds_from tokens None (Some m) u v h k = absurd (joined_not_whole (codes "to") tokens k.0 k.1 to_joint k.2 u h)
bounds_from tokens (Some l) None u v h k = absurd (joined_not_whole (codes "to") tokens h.0 h.1 to_joint h.2 v k)
bounds_from tokens (Some l) (Some m) u v h k =
    let same = one_joined (codes "to") tokens h.0 h.1 k.0 k.1 to_joint h.2 k.2 in
    let e = one_expression k.0 l m (subst (λ z. IsExpression z l) same.0 h.3) k.3 in
    let f = one_expression k.1 u v (subst (λ z. IsExpression z u) same.1 h.4) k.4 in
    ap (λ z. bounds_with (Some z) u) e ∙ ap (bounds_with (Some m)) f

one_bounds : (tokens : List Token) (a b : Bounds) → IsBounds tokens a → IsBounds tokens b → a ≡ b
one_bounds tokens a b h k = bounds_from tokens a.lower b.lower a.upper b.upper h k

-- Parts that may be missing, and lists.

module _ {X : Type 0} (P : List Token → X → Type 0) (one : (tokens : List Token) (a b : X) → P tokens a → P tokens b → a ≡ b) where
  pub one_each : (ps : List (List Token)) (xs ys : List X) → Each P ps xs → Each P ps ys → xs ≡ ys
  one_each [] [] [] h k = refl
  one_each [] [] (y ∷ ys) h k = absurd k
  one_each [] (x ∷ xs) ys h k = absurd h
  one_each (p ∷ ps) [] ys h k = absurd h
  one_each (p ∷ ps) (x ∷ xs) [] h k = absurd k
  one_each (p ∷ ps) (x ∷ xs) (y ∷ ys) h k = ap (λ z. z ∷ xs) (one p x y h.0 k.0) ∙ ap (λ z. y ∷ z) (one_each ps xs ys h.1 k.1)

  one_optional : (tokens : Option (List Token)) (a b : Option X) → IsOptional P tokens a → IsOptional P tokens b → a ≡ b
  one_optional None None None h k = refl
  one_optional None None (Some b) h k = absurd k
  one_optional None (Some a) b h k = absurd h
  one_optional (Some tokens) None b h k = absurd h
  one_optional (Some tokens) (Some a) None h k = absurd k
  one_optional (Some tokens) (Some a) (Some b) h k = ap (λ z. Some z) (one tokens a b h k)

  one_given : (tokens : Option (List Token)) (a b : X) → IsGiven P tokens a → IsGiven P tokens b → a ≡ b
  one_given None a b h k = absurd h
  one_given (Some tokens) a b h k = one tokens a b h k

  one_items : (tokens : List Token) (a b : List X) → AreItems P tokens a → AreItems P tokens b → a ≡ b
  one_items [] a b h k = h ∙ sym k
  one_items (t ∷ ts) a b h k = one_each (pieces Comma (t ∷ ts)) a b h k

one_outlined : {X : Type 0} (P : Outline → X → Type 0) → ((o : Outline) (a b : X) → P o a → P o b → a ≡ b) → (o : Option Outline) (a b : X) → Outlines P o a → Outlines P o b → a ≡ b
one_outlined P one None a b h k = absurd h
one_outlined P one (Some o) a b h k = one o a b h k

-- Declarations.

abbrev declarator_with : List ℕ → Suffix → Option (List Bounds) → Bool → Option TypeName → Declarator
declarator_with n s b auto t = record { name = n; suffix = s; bounds = b; auto = auto; ty = t }

declarator_at : (o : Outline) (a b : Declarator) → DeclaratorOf o a → DeclaratorOf o b → a ≡ b
declarator_at o a b h k =
    ap (λ z. declarator_with z a.suffix a.bounds a.auto a.ty) (h.name ∙ sym k.name)
    ∙ ap (λ z. declarator_with b.name z a.bounds a.auto a.ty) (h.suffix ∙ sym k.suffix)
    ∙ ap (λ z. declarator_with b.name b.suffix z a.auto a.ty) (one_optional (AreItems IsBounds) (one_items IsBounds one_bounds) o.inside a.bounds b.bounds h.bounds k.bounds)
    ∙ ap (λ z. declarator_with b.name b.suffix b.bounds z a.ty) (h.auto ∙ sym k.auto)
    ∙ ap (λ z. declarator_with b.name b.suffix b.bounds b.auto z) (one_optional IsTypeName one_type _ a.ty b.ty h.ty k.ty)

one_declarator : (tokens : List Token) (a b : Declarator) → IsDeclarator tokens a → IsDeclarator tokens b → a ≡ b
one_declarator tokens a b h k = one_outlined DeclaratorOf declarator_at (outline_of tokens) a b h k

abbrev constant_with : List ℕ → Suffix → Option TypeName → Exp → Constant
constant_with n s t e = record { name = n; suffix = s; ty = t; value = e }

constant_at : (behind : List Token) (o : Outline) (a b : Constant) → ConstantOf behind o a → ConstantOf behind o b → a ≡ b
constant_at behind o a b h k =
    ap (λ z. constant_with z a.suffix a.ty a.value) (h.name ∙ sym k.name)
    ∙ ap (λ z. constant_with b.name z a.ty a.value) (h.suffix ∙ sym k.suffix)
    ∙ ap (λ z. constant_with b.name b.suffix z a.value) (one_optional IsTypeName one_type o.ty a.ty b.ty h.ty k.ty)
    ∙ ap (λ z. constant_with b.name b.suffix b.ty z) (one_expression behind a.value b.value h.value k.value)

constant_cut : (cut : Option (List Token × List Token)) (a b : Constant) → IsEqualTo cut a → IsEqualTo cut b → a ≡ b
constant_cut None a b h k = absurd h
constant_cut (Some cut) a b h k = one_outlined (ConstantOf cut.1) (constant_at cut.1) (outline_of cut.0) a b h k

one_constant : (tokens : List Token) (a b : Constant) → IsConstant tokens a → IsConstant tokens b → a ≡ b
one_constant tokens a b h k = constant_cut (parted Equal tokens) a b h k

field_at : (o : Outline) (a b : Form) → FieldOf o a → FieldOf o b → a ≡ b
field_at o a b h k =
    h.form
    ∙ ap (λ z. field o.name o.suffix z h.ty) (one_optional (AreItems IsBounds) (one_items IsBounds one_bounds) o.inside h.bounds k.bounds h.dimensions k.dimensions)
    ∙ ap (λ z. field o.name o.suffix k.bounds z) (one_given IsTypeName one_type o.ty h.ty k.ty h.typed k.typed)
    ∙ sym k.form

member_at : (behind : Option (List Token)) (o : Outline) (a b : Form) → MemberOf behind o a → MemberOf behind o b → a ≡ b
member_at behind o a b h k = h.form ∙ ap (λ z. enum_member o.name o.suffix z) (one_optional IsExpression one_expression behind h.given k.given h.value k.value) ∙ sym k.form

-- Heads.

abbrev param_with : Bool → Passing → Bool → List ℕ → Suffix → Bool → Option TypeName → Option Exp → Param
param_with optional passing many n s array t e = record { optional = optional; passing = passing; param_array = many; name = n; suffix = s; array = array; ty = t; preset = e }

param_at : (words : Words) (default : Option (List Token)) (o : Outline) (a b : Param) → ParamOf words default o a → ParamOf words default o b → a ≡ b
param_at words default o a b h k =
    ap (λ z. param_with z a.passing a.param_array a.name a.suffix a.array a.ty a.preset) (h.optional ∙ sym k.optional)
    ∙ ap (λ z. param_with b.optional z a.param_array a.name a.suffix a.array a.ty a.preset) (h.passing ∙ sym k.passing)
    ∙ ap (λ z. param_with b.optional b.passing z a.name a.suffix a.array a.ty a.preset) (h.param_array ∙ sym k.param_array)
    ∙ ap (λ z. param_with b.optional b.passing b.param_array z a.suffix a.array a.ty a.preset) (h.name ∙ sym k.name)
    ∙ ap (λ z. param_with b.optional b.passing b.param_array b.name z a.array a.ty a.preset) (h.suffix ∙ sym k.suffix)
    ∙ ap (λ z. param_with b.optional b.passing b.param_array b.name b.suffix z a.ty a.preset) (h.array ∙ sym k.array)
    ∙ ap (λ z. param_with b.optional b.passing b.param_array b.name b.suffix b.array z a.preset) (one_optional IsTypeName one_type o.ty a.ty b.ty h.ty k.ty)
    ∙ ap (λ z. param_with b.optional b.passing b.param_array b.name b.suffix b.array b.ty z) (one_optional IsExpression one_expression default a.preset b.preset h.preset k.preset)

one_param : (tokens : List Token) (a b : Param) → IsParam tokens a → IsParam tokens b → a ≡ b
one_param tokens a b h k =
    let front = before_equal tokens (parted Equal tokens) in
    one_outlined (ParamOf (words_of front) (behind_equal (parted Equal tokens))) (param_at (words_of front) (behind_equal (parted Equal tokens))) (outline_of (past_words front)) a b h k

one_params : (inside : Option (List Token)) (a b : List Param) → AreParams inside a → AreParams inside b → a ≡ b
one_params None a b h k = h ∙ sym k
one_params (Some tokens) a b h k = one_items IsParam one_param tokens a b h k

abbrev signature_with : Option Visibility → List ℕ → Suffix → List Param → Signature
signature_with v n s ps = record { visibility = v; name = n; suffix = s; params = ps }

one_signature : (v : Option Visibility) (o : Outline) (a b : Signature) → SignatureOf v o a → SignatureOf v o b → a ≡ b
one_signature v o a b h k =
    ap (λ z. signature_with z a.name a.suffix a.params) (h.visibility_is ∙ sym k.visibility_is)
    ∙ ap (λ z. signature_with b.visibility z a.suffix a.params) (h.name ∙ sym k.name)
    ∙ ap (λ z. signature_with b.visibility b.name z a.params) (h.suffix ∙ sym k.suffix)
    ∙ ap (λ z. signature_with b.visibility b.name b.suffix z) (one_params o.inside a.params b.params h.params k.params)

abbrev result_with : TypeName → Bool → ResultType
result_with t array = record { ty = t; array = array }

result_at : (tokens : List Token) (array : Bool) (a b : ResultType) → IsResultWith tokens array a → IsResultWith tokens array b → a ≡ b
result_at tokens array a b h k = ap (λ z. result_with z a.array) (one_type tokens a.ty b.ty h.1 k.1) ∙ ap (λ z. result_with b.ty z) (h.0 ∙ sym k.0)

result_by : (tokens : List Token) (cut : Option (List Token)) (a b : ResultType) → IsResultCut tokens cut a → IsResultCut tokens cut b → a ≡ b
result_by tokens None a b h k = result_at tokens false a b h k
result_by tokens (Some front) a b h k = result_at front _ a b h k

one_result : (tokens : List Token) (a b : ResultType) → IsResult tokens a → IsResult tokens b → a ≡ b
one_result tokens a b h k = result_by tokens (result_cut (begins_fixed tokens) tokens) a b h k

head_at : (kind : ProcKind) (v : Option Visibility) (make : Signature → Option ResultType → Form) (o : Outline) (a b : Form) → HeadLine kind v make o a → HeadLine kind v make o b → a ≡ b
head_at kind v make o a b h k =
    h.form
    ∙ ap (λ z. make z h.result) (one_signature v o h.signature k.signature h.head.signed k.head.signed)
    ∙ ap (λ z. make k.signature z) (one_optional IsResult one_result o.ty h.result k.result h.head.gives k.head.gives)
    ∙ sym k.form

-- Lines.

range_at : (tokens : List Token) (a b : LetterRange) → IsRange tokens a → IsRange tokens b → a ≡ b
range_at tokens a b h k = let e : ◌≡◌ {A = Option LetterRange} (Some a) (Some b) = sym h ∙ k in cc

event_at : (tokens : List Token) (a b : Declarator) → IsEventDeclarator tokens a → IsEventDeclarator tokens b → a ≡ b
event_at tokens a b h k = one_declarator (past_word (codes "withevents") tokens) a b h k

one_def : (rest : List Token) (make : List LetterRange → Form) (a b : Form) → DefLine rest make a → DefLine rest make b → a ≡ b
one_def rest make a b h k = h.form ∙ ap make (one_each IsRange range_at (pieces Comma rest) h.ranges k.ranges h.each k.each) ∙ sym k.form

one_variables : (P : List Token → Declarator → Type 0) → ((tokens : List Token) (a b : Declarator) → P tokens a → P tokens b → a ≡ b) → (rest : List Token) (make : List Declarator → Form) (a b : Form) → VariablesLine P rest make a → VariablesLine P rest make b → a ≡ b
one_variables P one rest make a b h k = h.form ∙ ap make (one_each P one (pieces Comma rest) h.declarators k.declarators h.each k.each) ∙ sym k.form

one_constants : (v : Option Visibility) (rest : List Token) (a b : Form) → ConstantsLine v rest a → ConstantsLine v rest b → a ≡ b
one_constants v rest a b h k = h.form ∙ ap (constants v) (one_each IsConstant one_constant (pieces Comma rest) h.items k.items h.each k.each) ∙ sym k.form

name_at : (make : Outline → Form) (o : Outline) (a b : Form) → NameLine make o a → NameLine make o b → a ≡ b
name_at make o a b h k = h.form ∙ sym k.form

some_one : (f : Option Form) (a b : Form) → f ≡ Some a → f ≡ Some b → a ≡ b
some_one f a b h k = let e : ◌≡◌ {A = Option Form} (Some a) (Some b) = sym h ∙ k in cc

one_fit : (s : Start) (line rest : List Token) (a b : Form) → Fits s line rest a → Fits s line rest b → a ≡ b
one_fit start.Attribute line rest a b h k = h ∙ sym k
one_fit start.Option line rest a b h k = some_one _ a b h k
one_fit (start.Def w) line rest a b h k = one_def rest _ a b h k
one_fit (start.Variables w) line rest a b h k = one_variables IsDeclarator one_declarator rest _ a b h k
one_fit (start.Events w) line rest a b h k = one_variables IsEventDeclarator event_at rest _ a b h k
one_fit (start.Constants v) line rest a b h k = one_constants v rest a b h k
one_fit (start.Type v) line rest a b h k = one_outlined _ (name_at _) (outline_of rest) a b h k
one_fit (start.Enum v) line rest a b h k = one_outlined _ (name_at _) (outline_of rest) a b h k
one_fit (start.Head kind v) line rest a b h k = one_outlined _ (head_at kind v _) (outline_of rest) a b h k
one_fit (start.StaticHead kind v) line rest a b h k = one_outlined _ (head_at kind v _) (outline_of rest) a b h k
one_fit (start.End kind) line rest a b h k = some_one _ a b h k
one_fit start.Opaque line rest a b h k = h ∙ sym k
one_fit start.Field line rest a b h k = one_outlined FieldOf field_at (field_outline rest) a b h k
one_fit start.Member line rest a b h k =
    let cut = parted Equal rest in
    one_outlined (MemberOf (behind_equal cut)) (member_at (behind_equal cut)) (outline_of (before_equal rest cut)) a b h k

one_start : (begun : Begun) (line : List Token) (a b : Form) → FitsStart begun line a → FitsStart begun line b → a ≡ b
one_start None line a b h k = absurd h
one_start (Some s) line a b h k = one_fit s.0 line s.1 a b h k

pub one_form : (spot : Spot) (line : List Token) (a b : Form) → IsDeclaration spot line a → IsDeclaration spot line b → a ≡ b
one_form spot line a b h k = one_start (start_of spot line) line a b h k
