use Rattle.sc_opt.proofs.Styles.{is_style}
use Rattle.sc_opt.proofs.laws.fast_styles_are_styles.Goals as goal

pub returns : goal.returns
returns c = is_style
