use Rattle.std.proofs.Common.{sym, ◌∙◌}
use Rattle.std.proofs.lemmas.Bool.{false≢true}
use Rattle.settings_file.proofs.Tables.{document_read, document_refused}
use Rattle.settings_file.proofs.settings.table_of.Goals as goal

pub returns-in-Ok-clause-table : goal.returns-in-Ok-clause-table
returns-in-Ok-clause-table c = document_read _ _ c.in-Ok.ensures.ok.0 c.in-Ok.ensures.ok.1

pub returns-else-is_memory-clause-not_settings : goal.returns-else-is_memory-clause-not_settings
returns-else-is_memory-clause-not_settings c _ =
    document_refused _ (c.in-Err.ensures.refused (λ lacks. false≢true (sym c.if-is_memory.false ∙ c.is_memory.ensures.1 lacks)))
