use Rattle.cqlp_render.specs.declared.text_form.TextForm.TheVariants as forms
use Rattle.cqlp_tool_laws.proofs.OneAnswer.{rendered_whole, rendered_once}
use Rattle.cqlp_tool_laws.proofs.tool.one_answer_of_render_events.Goals as goal

pub returns-clause-whole : goal.returns-clause-whole
returns-clause-whole c = λ gifts. rendered_whole gifts forms.Lines

pub returns-clause-once : goal.returns-clause-once
returns-clause-once c = λ gifts. rendered_once gifts forms.Lines
