use Rattle.casm_text.proofs.KeptSettings.{kept_new}
use Rattle.casm_text.proofs.labels.keep_label.Goals as goal
use Rattle.casm_text.specs.Working.Assembling.{kept_setting, setting_with}
use Rattle.casm_text.specs.Working.Views.{line_view}
use Rattle.casm_text.specs.declared.syntax.Line.{Line as CodeLine}
use Rattle.std.proofs.Common.{◌≡◌, sym, subst, ◌∙◌}
use Rattle.std.proofs.lemmas.Map.Text.{btree_map_updates_str}

pub returns-in_ok-insert : goal.returns-in_ok-insert
returns-in_ok-insert c =
    λ other.
    subst (λ (line : CodeLine). kept_setting c.insert.new.self other ≡ setting_with (kept_setting c.args.labels.now other) c.args.index c.args.at.number (line_view line) other) (sym c.in-Label.is)
    (kept_new c.args.labels.now (record { line = c.args.index; offset = c.args.at }) c.in-Label.name.now other _ (sym c.contains_key.ensures ∙ c.if-not-contains_key.true)
    (btree_map_updates_str c.in-Label.name.now c.args.labels.now c.insert.new.self _ c.in_ok-insert.ensures.updates other))
