mod RunEndings
