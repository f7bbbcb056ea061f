use Rattle.std.proofs.Common.{rules, arith, ◌≡◌, not, refl}
use Rattle.std.specs.List.{filter}
use Rattle.std.proofs.lemmas.Fn.{filter_same}
use Rattle.std.proofs.lemmas.List.Elements.{All-filter}
use Rattle.up_base.specs.MemoryTwins.{is_spelt}
use Rattle.up_base.specs.FileStore.{part, EndsBy}
use Rattle.up_base.specs.declared.file_store.Entry.{Entry}
use Rattle.up_base.proofs.Buffer.{files_of-filter}
use Rattle.up_base.proofs.file_store.FileStore.remove.Goals as goal

kept : (c : goal.After-retain) → c.retain.new.self.items ≡ filter (λ (e : Entry). not (is_spelt c.args.name.now (part c.self.inside.buffer.items e.start e.name_len))) c.self.inside.entries.items
kept c = filter_same _ _ _ (λ e b f h. search rules) _ _ c.retain.ensures.filtered

pub invariant_of-self : goal.invariant_of-self
invariant_of-self c = record {
  within = rw (kept c) (All-filter _ (EndsBy _) _ c.self.invariant.within);
  files_fit = omega (arith, c.retain.ensures.bound, c.retain.ensures.capacity);
  bytes_fit = c.self.invariant.bytes_fit;
}

pub returns : goal.returns
returns c = rw (← c.self.view_is, kept c, files_of-filter c.self.inside.buffer.items c.args.name.now c.self.inside.entries.items) refl
