use Rattle.std.proofs.Common.{◌∙◌, refl}
use Rattle.st_check_body.proofs.st_body_parts.NameLaws.{name_end}
use Rattle.st_check_body.proofs.st_body_parts.labels.check_name.Goals as goal

pub returns : goal.returns
returns c = λ asked.
    name_end _ _ asked _ _ _ _ _ _ _ _ _ _ c.sought-m.ensures c.in_ok-bare.ensures (c.is_no_constant.ensures c.args.s.now) c.when-own.ensures c.earlier-found.ensures c.in_ok-told.ensures c.in_ok-shown.ensures c.value_target.ensures c.note-note.ensures
    (c.in_ok-name.ensures ∙ c.as_str.ensures) refl
