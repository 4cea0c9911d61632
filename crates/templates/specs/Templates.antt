-- What a template says.
use Rattle.templates.specs.Layouts.{Layout, laid}
use Rattle.templates.specs.Stores.{held}
use Rattle.templates.specs.declared.template.Template.{Template}

abbrev pub layout_of : Template → Layout
layout_of t = laid t.size.tasks t.size.processors t.size.frame (held t.store)
