-- The files of a project whose first files are known.
use Rattle.std.proofs.Common.{◌≡◌, ℕ, Bool, true, List, [], ◌∷◌, ◌++◌, map, length, take, codes, refl, sym, ap, ◌∙◌, Option}
use Rattle.std.specs.Prelude.{slice_get}
use Rattle.std.specs.List.{list_all}
use Rattle.up_base.specs.Names.{is_name}
use Rattle.net_tree.specs.Text.{file_name, is_note, is_writable_module, module_text}
use Rattle.net_tree.specs.Tree.{Module}
use Rattle.net_exprs.proofs.Words.{both_true}
use Rattle.net_reader.specs.Laws.{IsModuleOf, ModulesAreRead}
use Rattle.net_reader.specs.Fits.{fits_module}
use Rattle.net_reader.specs.ModuleReader.{NotedModule, Reading, complete, module_in, stuck}
use Rattle.net_reader.proofs.FileLists.{first_of}
use Rattle.net_reader.proofs.FileNames.{no_response, same_names}
use Rattle.net_reader.proofs.Tests.{all_append, and_true}

abbrev pub File : Type 0
File = List ℕ × List ℕ

abbrev pub module_files : Option (List ℕ) → List Module → List File
module_files own ms = map (λ (m : Module). (file_name m, module_text own m)) ms

-- the names of files
abbrev pub have_names : List Module → Bool
have_names ms = list_all (λ m. is_name (file_name m)) ms

-- modules that can be written and read back
pub record AreFine (ms : List Module) : Type 0 where
  pub writable : list_all is_writable_module ms ≡ true
  pub fits : list_all fits_module ms ≡ true
  pub named : have_names ms ≡ true

pub record IsFine (m : Module) : Type 0 where
  pub writable : is_writable_module m ≡ true
  pub fits : fits_module m ≡ true
  pub named : is_name (file_name m) ≡ true

pub first_fine : (m : Module) (ms : List Module) → AreFine (m ∷ ms) → IsFine m × AreFine ms
first_fine m ms h =
    let writable = both_true (is_writable_module m) (list_all is_writable_module ms) h.writable in
    let fits = both_true (fits_module m) (list_all fits_module ms) h.fits in
    let named = both_true (is_name (file_name m)) (have_names ms) h.named in
    (record { writable = writable.0; fits = fits.0; named = named.0 }, record { writable = writable.1; fits = fits.1; named = named.1 })

pub none_fine : AreFine []
none_fine = record { writable = refl; fits = refl; named = refl }

pub more_fine : (ms : List Module) (m : Module) → AreFine ms → IsFine m → AreFine (ms ++ m ∷ [])
more_fine ms m h k = record {
  writable = all_append is_writable_module ms (m ∷ []) h.writable (and_true (is_writable_module m) true k.writable refl);
  fits = all_append fits_module ms (m ∷ []) h.fits (and_true (fits_module m) true k.fits refl);
  named = all_append (λ (m : Module). is_name (file_name m)) ms (m ∷ []) h.named (and_true (is_name (file_name m)) true k.named refl);
}

pub last_fine : (ms : List Module) (m : Module) → AreFine (ms ++ m ∷ []) → AreFine ms × IsFine m
last_fine [] m h = (none_fine, (first_fine m [] h).0)
last_fine (x ∷ xs) m h =
    let parts = first_fine x (xs ++ m ∷ []) h in
    let rest = last_fine xs m parts.1 in (
      record {
        writable = and_true (is_writable_module x) (list_all is_writable_module xs) parts.0.writable rest.0.writable;
        fits = and_true (fits_module x) (list_all fits_module xs) parts.0.fits rest.0.fits;
        named = and_true (is_name (file_name x)) (have_names xs) parts.0.named rest.0.named;
      },
      rest.1,
    )

-- ---- two modules of one file

abbrev module_of : Reading NotedModule → NotedModule → NotedModule
module_of (complete m) other = m
module_of (stuck n) other = other

pub is_module_of : (known own : Option (List ℕ)) (m : Module) → IsFine m → is_note own ≡ true → IsModuleOf Option.None m.name (record { note = own; tree = m })
is_module_of known own m fine h = record { is_known = tt; note = h; named = refl; writable = fine.writable; fits = fine.fits }

pub same_modules : ModulesAreRead → (a b : Option (List ℕ)) (m n : Module) → is_note a ≡ true → is_note b ≡ true → IsFine m → IsFine n → file_name m ≡ file_name n → module_text a m ≡ module_text b n → (a ≡ b) × (m ≡ n)
same_modules read a b m n ha hb hm hn names texts =
    let name = same_names m n names in
    let first = read Option.None m.name (record { note = a; tree = m }) (is_module_of Option.None a m hm ha) in
    let second = read Option.None n.name (record { note = b; tree = n }) (is_module_of Option.None b n hn hb) in
    let one : ◌≡◌ {A = Reading NotedModule} (complete (record { note = a; tree = m })) (complete (record { note = b; tree = n })) =
    sym first ∙ ap (λ name. module_in Option.None name (module_text a m)) name ∙ ap (module_in Option.None n.name) texts ∙ second in
    let same = ap (λ r. module_of r (record { note = a; tree = m })) one in
    (ap (λ (m : NotedModule). m.note) same, ap (λ (m : NotedModule). m.tree) same)

-- ---- the modules behind those whose files are known

-- the comment of the files that are known, where there are some
abbrev pub IsNoteOf : Option (List ℕ) → Option (List ℕ) → List Module → Type 0
IsNoteOf a b [] = Unit {0}
IsNoteOf a b (m ∷ ms) = a ≡ b

pub record FrontIs (given own : Option (List ℕ)) (known ms : List Module) (last : File) : Type 0 where
  pub rest : List Module
  pub same : ms ≡ known ++ rest
  pub next : slice_get (module_files own ms ++ last ∷ []) (length known) ≡ first_of (module_files own rest ++ last ∷ [])
  pub notes : IsNoteOf given own known

response_name : List ℕ
response_name = codes "upgrade.rsp"

same_lists : {A : Type 0} (x y : A) (xs ys : List A) → ◌≡◌ {A = List A} (x ∷ xs) (y ∷ ys) → (x ≡ y) × (xs ≡ ys)
same_lists x y xs ys h = (cc h, cc h)

pub front_is : ModulesAreRead → (given own : Option (List ℕ)) (known ms : List Module) (text : List ℕ) → is_note given ≡ true → is_note own ≡ true → AreFine known → AreFine ms
    → take (length known) (module_files own ms ++ (codes "upgrade.rsp", text) ∷ []) ≡ module_files given known → FrontIs given own known ms (codes "upgrade.rsp", text)
front_is read given own [] [] text h0 h fk fm e = record { rest = []; same = refl; next = refl; notes = tt }
front_is read given own [] (m ∷ ms) text h0 h fk fm e = record { rest = m ∷ ms; same = refl; next = refl; notes = tt }
front_is read given own (x ∷ known) [] text h0 h fk fm e =
    no_response x (sym (ap (λ (f : File). f.0) (same_lists (codes "upgrade.rsp", text) (file_name x, module_text given x) (take (length known) []) (module_files given known) e).0))
front_is read given own (x ∷ known) (m ∷ ms) text h0 h fk fm e =
    let parts = same_lists (file_name m, module_text own m) (file_name x, module_text given x) (take (length known) (module_files own ms ++ (codes "upgrade.rsp", text) ∷ [])) (module_files given known) e in
    let fine_x = first_fine x known fk in
    let fine_m = first_fine m ms fm in
    let one = same_modules read given own x m h0 h fine_x.0 fine_m.0 (sym (ap (λ (f : File). f.0) parts.0)) (sym (ap (λ (f : File). f.1) parts.0)) in
    let later = front_is read given own known ms text h0 h fine_x.1 fine_m.1 parts.1 in
    record { rest = later.rest; same = ap (λ ms. m ∷ ms) later.same ∙ ap (λ m. m ∷ (known ++ later.rest)) (sym one.1); next = later.next; notes = one.0 }

-- the files of modules, behind the files of those before them
pub front_taken : (own : Option (List ℕ)) (known rest : List Module) (last : List File) → take (length known) (module_files own (known ++ rest) ++ last) ≡ module_files own known
front_taken own [] rest last = refl
front_taken own (m ∷ known) rest last = ap (λ files. (file_name m, module_text own m) ∷ files) (front_taken own known rest last)

pub front_next : (own : Option (List ℕ)) (known rest : List Module) (last : List File) → slice_get (module_files own (known ++ rest) ++ last) (length known) ≡ first_of (module_files own rest ++ last)
front_next own [] [] [] = refl
front_next own [] [] (f ∷ last) = refl
front_next own [] (m ∷ rest) last = refl
front_next own (m ∷ known) rest last = front_next own known rest last
