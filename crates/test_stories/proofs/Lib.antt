pub mod StoryLaws
