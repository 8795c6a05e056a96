use Rattle.review_machine_laws.proofs.SoundProjects.{sound_projects}
use Rattle.review_machine_laws.proofs.votes.projects_are_sound.Goals as goal

pub returns : goal.returns
returns c = sound_projects c.one_file.ensures.trees
