-- From what clap says of a parse to what is found.
use Rattle.std.proofs.Common.{Result, Ok, Err, IsErrAnd, IsErrOf, inl, inr, zero, ◌≡◌, ◌-◌, ◌≤◌, suc, true, false, List, [], ◌∷◌, length, Option, Some, codes, refl, sym, ap, subst, arith, ◌∙◌}
use Rattle.std.specs.Prelude.{nat_le, slice_get, slice_index_or, option_map}
use Rattle.std.specs.Borrow.{Bor}
use Rattle.std.specs.List.{list_all}
use Rattle.std.specs.Str.{IsAscii, IsUtf8, bytes_eq}
use Rattle.std.proofs.lemmas.Bool.{and_parts}
use Rattle.std.proofs.lemmas.Bool.Decides.{nat_tests}
use Rattle.std.proofs.lemmas.Str.{IsUtf8-from_ascii}
use Rattle.up_base.specs.Names.{is_printable}
use Rattle.clap.specs.Kinds.{HasKind}
use Rattle.clap.specs.Values.{kind_of}
use Rattle.clap.specs.declared.error.Error.{Error}
use Rattle.clap.specs.declared.error.kind.ErrorKind.TheVariants as kind
use Rattle.command_words.specs.declared.asked.WordsFail.{WordsFail}
use Rattle.command_words.specs.declared.asked.WordsFail.TheVariants.{NoForm}
use Rattle.clap.specs.Faults.{fault_of, is_simple_and_free}
use Rattle.clap.specs.Matches.{first_value, found_of}
use Rattle.clap.specs.Simple.{App, HasMatchesOf, is_simple, matches_of}
use Rattle.clap.specs.Walk.{Text, first_of}
use Rattle.clap.specs.declared.parser.matches.ArgMatches.{ArgMatches}
use Rattle.clap.proofs.WalkLemmas.{first_value-rows}
use Rattle.command_words.specs.Commands.{count_app, count_faults, count_found, file_app, file_faults, file_found, last_is_dashes, seen}

pub file_faultless : (a : App) (words : List Text) → a ≡ file_app → (is_simple_and_free a ≡ true → fault_of a words ≡ []) → file_faults words ≡ []
unfolding file_faults
file_faultless a words is none = subst (λ x. is_simple_and_free x ≡ true → fault_of x words ≡ []) is none refl

pub count_faultless : (a : App) (words : List Text) → a ≡ count_app → (is_simple_and_free a ≡ true → fault_of a words ≡ []) → count_faults words ≡ []
unfolding count_faults
count_faultless a words is none = subst (λ x. is_simple_and_free x ≡ true → fault_of x words ≡ []) is none refl

found_in : (m : ArgMatches) (id : Text) (a b : App) (words : List Text) → a ≡ b → is_simple b ≡ true → HasMatchesOf a words m → first_value (found_of m) id ≡ first_of id (matches_of b words)
found_in m id a b words is simple has =
    first_value-rows (found_of m) id ∙ ap (first_of id) (subst (λ x. HasMatchesOf x words m) is has simple).0

pub file_is_found : (m : ArgMatches) (id : Text) (a : App) (words : List Text) → a ≡ file_app → HasMatchesOf a words m → first_value (found_of m) id ≡ file_found id words
unfolding file_found
file_is_found m id a words is has = found_in m id a file_app words is refl has

pub count_is_found : (m : ArgMatches) (a : App) (words : List Text) → a ≡ count_app → HasMatchesOf a words m → first_value (found_of m) (codes "N") ≡ count_found words
unfolding count_found
count_is_found m a words is has = found_in m (codes "N") a count_app words is refl has

-- the first word, and the last
pub seen_first : (xs : List (Bor Text)) (d : Bor Text) (word : Text) → 1 ≤ length xs → (slice_index_or xs 0 d).now ≡ word → (rest : List Text) × (seen xs ≡ word ∷ rest)
seen_first [] d word some is = absurd (omega arith)
seen_first (x ∷ xs) d word some is = (seen xs, ap (λ t. t ∷ seen xs) is)

pub last_seen : (xs : List (Bor Text)) (x : Bor Text) → Some x ≡ slice_get xs (length xs - 1) → bytes_eq x.now (codes "--") ≡ last_is_dashes (seen xs)
last_seen [] x is = absurd (cc is)
last_seen (y ∷ []) x is = ap (λ (o : Option (Bor Text)). Rattle.std.specs.Option.unwrap_or (option_map (λ s. bytes_eq s.now (codes "--")) o) false) is
last_seen (y ∷ z ∷ zs) x is =
    let less : length (y ∷ z ∷ zs) - 1 ≡ suc (length (z ∷ zs) - 1) = omega arith in
    last_seen (z ∷ zs) x (is ∙ ap (slice_get (y ∷ z ∷ zs)) less)

-- ---- errors

abbrev as_error : {T U : Type 0} → Result T WordsFail → Result U WordsFail
as_error (Ok x) = Err NoForm
as_error (Err e) = Err e

abbrev error_of : {T : Type 0} → Result T WordsFail → WordsFail
error_of (Ok x) = NoForm
error_of (Err e) = e

-- an error that `?` passes on is the callee's
pub passed_on : {T U : Type 0} (r : Result T WordsFail) (e : WordsFail) → IsErrAnd r (λ y. y ≡ e) → IsErrOf r NoForm → IsErrOf {T = U} (Err e) NoForm
passed_on (Ok x) e same is = absurd same
passed_on (Err y) e same is = ap Err (sym same ∙ ap error_of is)

pub no_form_is : {T : Type 0} (e : WordsFail) → IsErrOf {T = T} (Err e) NoForm → e ≡ NoForm
no_form_is e is = ap error_of is

memory_alone : (e : Error) → HasKind [] e → kind_of e ≡ kind.OutOfMemory
memory_alone e (inl is) = is
memory_alone e (inr bad) = absurd bad

pub file_memory : (a : App) (words : List Text) (e : Error) → a ≡ file_app → (is_simple_and_free a ≡ true → HasKind (fault_of a words) e) → file_faults words ≡ [] → kind_of e ≡ kind.OutOfMemory
unfolding file_faults
file_memory a words e is kinds none =
    memory_alone e (subst (λ ks. HasKind ks e) none (subst (λ x. is_simple_and_free x ≡ true → HasKind (fault_of x words) e) is kinds refl))

pub count_memory : (a : App) (words : List Text) (e : Error) → a ≡ count_app → (is_simple_and_free a ≡ true → HasKind (fault_of a words) e) → count_faults words ≡ [] → kind_of e ≡ kind.OutOfMemory
unfolding count_faults
count_memory a words e is kinds none =
    memory_alone e (subst (λ ks. HasKind ks e) none (subst (λ x. is_simple_and_free x ≡ true → HasKind (fault_of x words) e) is kinds refl))

-- ---- printable words are UTF-8

ascii_at : (word : Text) → list_all is_printable word ≡ true → IsAscii word
ascii_at [] p i = omega arith
ascii_at (c ∷ cs) p zero = grind (arith, nat_tests, (and_parts (nat_le 32 c) (nat_le c 126) (and_parts _ _ p).0).1)
ascii_at (c ∷ cs) p (suc i) = ascii_at cs (and_parts _ _ p).1 i

pub printable_utf8 : (word : Text) → list_all is_printable word ≡ true → IsUtf8 word
printable_utf8 word p = IsUtf8-from_ascii word (ascii_at word p)
